-- The arithmetic of shares of a whole, over numbers alone.
use Rattle.std.proofs.Common.{◌≡◌, ℕ, zero, suc, ◌+◌, ◌*◌, ◌/◌, ◌%◌, ◌<◌, ◌≤◌, ℤ, pos, negsuc, ◌+ℤ◌, ◌-ℤ◌, nat_abs, ◌≤ℤ◌, sym, refl, ap, ◌∙◌, mul_comm, add-mul, mul-le-mul_left, div-add-mod', mul-add, div-mul-le_self, mul-div_cancel, arith}
use native.Mathlib.Nat.{div-zero, mul-add-div_right, div-le_of_le-mul}
use Rattle.std.proofs.lemmas.Nat.{mod_below, div_below}
use Rattle.std.proofs.lemmas.Int.{ints}
use Rattle.figures.specs.Figures.{or_nothing}

-- the shares of s by the parts g, p and f of the whole w, where p's share is taken of a and of b apart, and what their remainders make together are s
pub shares_add_up : (g p f s a b w : ℕ) → g + p + f ≡ w → a + b ≡ s → s ≤ w
    → s ≡ p * a / w + p * b / w + g * s / w + f * s / w + (g * s % w + p * a % w + p * b % w + f * s % w) / w
shares_add_up g p f s a b zero parts ab small =
    let none : s ≡ 0 = omega arith in
    omega (
      arith,
      div-zero (p * a),
      div-zero (p * b),
      div-zero (g * s),
      div-zero (f * s),
      div-zero (g * s % 0 + p * a % 0 + p * b % 0 + f * s % 0),
    )
shares_add_up g p f s a b (suc n) parts ab small =
    let w : ℕ = suc n in
    let quotients : ℕ = p * a / w + p * b / w + g * s / w + f * s / w in
    let remainders : ℕ = g * s % w + p * a % w + p * b % w + f * s % w in
    let some : 0 < w = omega arith in
    let expanded : s * w ≡ g * s + p * a + p * b + f * s =
    omega (
      arith,
      ap (λ (x : ℕ). s * x) parts,
      mul-add s (g + p) f,
      mul-add s g p,
      mul_comm s g,
      mul_comm s p,
      mul_comm s f,
      ap (λ (x : ℕ). p * x) ab,
      mul-add p a b,
    ) in
    let whole : quotients * w + remainders ≡ s * w =
    omega (
      arith,
      add-mul (p * a / w + p * b / w + g * s / w) (f * s / w) w,
      add-mul (p * a / w + p * b / w) (g * s / w) w,
      add-mul (p * a / w) (p * b / w) w,
      div-add-mod' (p * a) w,
      div-add-mod' (p * b) w,
      div-add-mod' (g * s) w,
      div-add-mod' (f * s) w,
    ) in
    sym (mul-div_cancel s some) ∙ ap (λ (x : ℕ). x / w) (sym whole) ∙ mul-add-div_right some quotients remainders

-- four remainders are less than four wholes
pub four_remainders : (x y z u w : ℕ) → (x % w + y % w + z % w + u % w) / w ≤ 3
four_remainders x y z u zero = omega (arith, div-zero (x % 0 + y % 0 + z % 0 + u % 0))
four_remainders x y z u (suc n) =
    let some : 0 < suc n = omega arith in
    omega (
      arith,
      div_below (x % suc n + y % suc n + z % suc n + u % suc n) (suc n) 4 some
          (omega (arith, mod_below x (suc n) some, mod_below y (suc n) some, mod_below z (suc n) some, mod_below u (suc n) some)),
    )

-- two shares of amounts that are together at most the whole are together no more than their part, and so is one
pub two_shares_le : (g s l w : ℕ) → s + l ≤ w → g * s / w + g * l / w ≤ g
two_shares_le g s l zero h = omega (arith, div-zero (g * s), div-zero (g * l))
two_shares_le g s l (suc n) h =
    let w : ℕ = suc n in
    let some : 0 < w = omega arith in
    let under : (g * s / w + g * l / w) * w ≤ w * g =
    omega (
      arith,
      div-mul-le_self (g * s) w,
      div-mul-le_self (g * l) w,
      add-mul (g * s / w) (g * l / w) w,
      mul-add g s l,
      mul-le-mul_left g h,
      mul_comm w g,
    ) in
    let back : (g * s / w + g * l / w) * w / w ≤ g = div-le_of_le-mul w under in
    omega (arith, back, mul-div_cancel (g * s / w + g * l / w) some)

pub share_le : (g s w : ℕ) → s ≤ w → g * s / w ≤ g
share_le g s w h = div-le_of_le-mul w (omega (arith, mul-le-mul_left g h, mul_comm w g))

-- a number that is not below 0, as a natural number
pub or_nothing_of_nonnegative : (z : ℤ) → pos 0 ≤ℤ z → pos (or_nothing z) ≡ z
or_nothing_of_nonnegative (pos n) h = refl
or_nothing_of_nonnegative (negsuc n) h = absurd (omega (arith, ints))

pub size_of_nonnegative : (z : ℤ) → pos 0 ≤ℤ z → nat_abs z ≡ or_nothing z
size_of_nonnegative (pos n) h = refl
size_of_nonnegative (negsuc n) h = absurd (omega (arith, ints))

-- what is left of i after n and l, with both, is i
pub left_over : (i n : ℕ) (l : ℤ) → (pos n +ℤ l) ≤ℤ pos i → pos i ≡ pos (or_nothing (pos i -ℤ pos n -ℤ l)) +ℤ pos n +ℤ l
left_over i n l h =
    let nonnegative : pos 0 ≤ℤ (pos i -ℤ pos n -ℤ l) = omega (arith, ints) in
    let kept : pos (or_nothing (pos i -ℤ pos n -ℤ l)) ≡ pos i -ℤ pos n -ℤ l = or_nothing_of_nonnegative (pos i -ℤ pos n -ℤ l) nonnegative in
    omega (arith, ints)
