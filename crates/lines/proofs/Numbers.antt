-- What a field spells, one digit after another.
use Rattle.std.proofs.Common.{◌≡◌, ℕ, suc, ◌+◌, ◌-◌, ◌*◌, ◌^◌, ◌<◌, ◌≤◌, true, false, cond, List, [], ◌∷◌, length, Some, None, Option, ap, ◌∙◌, ⊎_elim, arith}
use native.Mathlib.Nat.{pow-succ'}
use Rattle.std.proofs.lemmas.Bool.{cases_Bool, le-leb}
use Rattle.lines.specs.Values.{is_digit, all_digits, digits_value, number_of}

-- what is spelt once the digits v are read, and the bytes are left
abbrev pub spelt_after : ℕ → List ℕ → Option ℕ
spelt_after v [] = Some v
spelt_after v (c ∷ cs) = cond (is_digit c) (spelt_after (10 * v + (c - 48)) cs) None

-- a digit goes from what is left to what is read
shift : (v d n rest : ℕ) → (10 * v + d) * 10 ^ n + rest ≡ v * 10 ^ suc n + (d * 10 ^ n + rest)
shift v d n rest = omega (arith, ap (λ p. v * p) (pow-succ' 10 n))

spelt_is : (v : ℕ) (cs : List ℕ) → spelt_after v cs ≡ cond (all_digits cs) (Some (v * 10 ^ length cs + digits_value cs)) None
spelt_is v [] = let e : v ≡ v * 1 + 0 = omega arith in ap Some e
spelt_is v (c ∷ cs) =
    ⊎_elim
    (λ (d : is_digit c ≡ true). rw d (spelt_is (10 * v + (c - 48)) cs ∙ ap (λ n. cond (all_digits cs) (Some n) None) (shift v (c - 48) (length cs) (digits_value cs))))
    (λ (d : is_digit c ≡ false). rw d)
    (cases_Bool (is_digit c))

-- a field of 1 to 10 bytes spells what its bytes do from nothing on
pub spelt_whole : (f : List ℕ) → 0 < length f → length f ≤ 10 → spelt_after 0 f ≡ number_of f
spelt_whole f some few =
    let zero_off : 0 * 10 ^ length f + digits_value f ≡ digits_value f = omega arith in
    rw (le-leb 1 (length f) some, le-leb (length f) 10 few) (spelt_is 0 f ∙ ap (λ n. cond (all_digits f) (Some n) None) zero_off)
