-- Sums over the pairs of a year: what a change at one quarter does to them.
use Rattle.std.proofs.Common.{◌≡◌, ℕ, zero, suc, ◌+◌, ◌<◌, ◌≤◌, Some, None, Option, refl, ap, ◌∙◌, ⊎_elim, not-suc-le-zero, arith}
use Rattle.std.proofs.lemmas.Map.{update_here, update_apart}
use Rattle.std.proofs.lemmas.Bool.{cases_eq}
use Rattle.entries.specs.declared.entry.Entry.{Entry}
use Rattle.entries.specs.Pairs.{Pairs, no_pairs, with_at, updated, without, or_zero, total}

-- what stands at the quarter that was changed, and at any other
pub with_at_here : (p : Pairs) (q : ℕ) (w : Option Entry) → with_at p q w q ≡ w
with_at_here p q w = update_here p q w

pub with_at_elsewhere : (p : Pairs) (q : ℕ) (w : Option Entry) (k : ℕ) → (k ≡ q → ⊥) → with_at p q w k ≡ p k
with_at_elsewhere p q w k ne = update_apart p q w k ne

-- pairs that agree below n have the same sum
pub total_alike : (n : ℕ) (f : Entry → ℕ) (p r : Pairs) → ((k : ℕ) → k < n → p k ≡ r k) → total f p n ≡ total f r n
unfolding total
total_alike zero f p r h = refl
total_alike (suc n) f p r h =
    let below : total f p n ≡ total f r n = total_alike n f p r (λ k l. h k (omega arith)) in
    let here : p n ≡ r n = h n (omega arith) in
    cc

-- a change at or past the bound does nothing to the sum
pub total_past : (n : ℕ) (f : Entry → ℕ) (p : Pairs) (q : ℕ) (w : Option Entry) → n ≤ q → total f (with_at p q w) n ≡ total f p n
total_past n f p q w h = total_alike n f (with_at p q w) p (λ k l. with_at_elsewhere p q w k (λ e. omega arith))

-- with w at q the sum has w's part, and no longer the part of what stood there
pub total_changed : (n : ℕ) (f : Entry → ℕ) (p : Pairs) (q : ℕ) (w : Option Entry) → q < n
    → total f (with_at p q w) n + or_zero f (p q) ≡ total f p n + or_zero f w
unfolding total
total_changed zero f p q w h = absurd (not-suc-le-zero h)
total_changed (suc n) f p q w h = ⊎_elim at_n (below_n (λ l. total_changed n f p q w l)) (cases_eq n q)
  where
    at_n : n ≡ q → total f (with_at p q w) n + or_zero f (with_at p q w n) + or_zero f (p q) ≡ total f p n + or_zero f (p n) + or_zero f w
    at_n e =
        let past : total f (with_at p q w) n ≡ total f p n = total_past n f p q w (omega arith) in
        let here : or_zero f (with_at p q w n) ≡ or_zero f w = ap (λ (k : ℕ). or_zero f (with_at p q w k)) e ∙ ap (or_zero f) (with_at_here p q w) in
        let old : or_zero f (p n) ≡ or_zero f (p q) = ap (λ (k : ℕ). or_zero f (p k)) e in
        omega arith

    below_n : (q < n → total f (with_at p q w) n + or_zero f (p q) ≡ total f p n + or_zero f w)
        → (n ≡ q → ⊥) → total f (with_at p q w) n + or_zero f (with_at p q w n) + or_zero f (p q) ≡ total f p n + or_zero f (p n) + or_zero f w
    below_n again ne =
        let rec : total f (with_at p q w) n + or_zero f (p q) ≡ total f p n + or_zero f w = again (omega arith) in
        let here : or_zero f (with_at p q w n) ≡ or_zero f (p n) = ap (or_zero f) (with_at_elsewhere p q w n ne) in
        omega arith

-- no entry, no sum
pub total_none : (n : ℕ) (f : Entry → ℕ) → total f no_pairs n ≡ 0
unfolding total
total_none zero f = refl
total_none (suc n) f = omega (arith, total_none n f)

-- sums of amounts that add up, and of amounts in order
pub total_adds : (n : ℕ) (f g h : Entry → ℕ) (p : Pairs) → ((e : Entry) → f e + g e ≡ h e) → total f p n + total g p n ≡ total h p n
unfolding total
total_adds zero f g h p each = refl
total_adds (suc n) f g h p each = omega (arith, total_adds n f g h p each, at (p n))
  where
    at : (o : Option Entry) → or_zero f o + or_zero g o ≡ or_zero h o
    at None = refl
    at (Some e) = each e

pub total_le : (n : ℕ) (f g : Entry → ℕ) (p : Pairs) → ((e : Entry) → f e ≤ g e) → total f p n ≤ total g p n
unfolding total
total_le zero f g p each = omega arith
total_le (suc n) f g p each = omega (arith, total_le n f g p each, at (p n))
  where
    at : (o : Option Entry) → or_zero f o ≤ or_zero g o
    at None = omega arith
    at (Some e) = each e

-- an entry more where none stood, another where one stood, and none where one stood
pub total_added : (n : ℕ) (f : Entry → ℕ) (p : Pairs) (q : ℕ) (e : Entry) → q < n → p q ≡ None
    → total f (updated p q e) n ≡ total f p n + f e
total_added n f p q e h none = omega (arith, total_changed n f p q (Some e) h, ap (or_zero f) none)

pub total_replaced : (n : ℕ) (f : Entry → ℕ) (p : Pairs) (q : ℕ) (new : Entry) → q < n
    → total f (updated p q new) n ≡ total f (without p q) n + f new
total_replaced n f p q new h = omega (arith, total_changed n f p q (Some new) h, total_changed n f p q None h)

pub total_removed : (n : ℕ) (f : Entry → ℕ) (p : Pairs) (q : ℕ) (old : Entry) → q < n → p q ≡ Some old
    → total f (without p q) n + f old ≡ total f p n
total_removed n f p q old h stood = omega (arith, total_changed n f p q None h, ap (or_zero f) stood)
