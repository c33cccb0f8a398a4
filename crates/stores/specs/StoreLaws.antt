-- Why both makes keep the laws of a store: no pair stands at or beyond the reach, and no more than the capacity.
use Rattle.std.specs.Prelude.{◌≡◌, ℕ, zero, suc, ◌<◌, ◌≤◌, true, false, not, ◌&&◌, List, [], ◌∷◌, length, is_some, Some, None, Option, nat_lt, refl}
use Rattle.std.proofs.Common.{◌∙◌, arith}
use Rattle.std.proofs.lemmas.Bool.{and_parts, not-true, ltb-true}
use Rattle.entries.specs.declared.entry.Entry.{Entry}
use Rattle.entries.specs.Pairs.{Pairs, or_zero, total, tally}
use Rattle.entries.proofs.Totals.{total_none, total_added, with_at_elsewhere}
use Rattle.stores.specs.declared.slip.Slip.{Slip}
use Rattle.stores.specs.Slips.{on_slips, one_each}

pub one_at_most : (o : Option Entry) → or_zero (λ _. 1) o ≤ 1
one_at_most None = omega arith
one_at_most (Some e) = omega arith

-- at most one pair a quarter
pub tally_le : (p : Pairs) (n : ℕ) → tally p n ≤ n
unfolding total
tally_le p zero = omega arith
tally_le p (suc n) = omega (arith, tally_le p n, one_at_most (p n))

-- `one_each`, as facts
abbrev pub Once : ℕ → List Slip → Type 0
Once n [] = Unit {0}
Once n (s ∷ ss) = (s.quarter < n) × (on_slips ss s.quarter ≡ None) × Once n ss

none_from : (o : Option Entry) → is_some o ≡ false → o ≡ None
none_from None e = refl
none_from (Some x) e = grind arith

pub once_from_test : (n : ℕ) (ss : List Slip) → one_each n ss ≡ true → Once n ss
once_from_test n [] e = tt
once_from_test n (s ∷ ss) e =
    let p = and_parts (nat_lt s.quarter n) (not (is_some (on_slips ss s.quarter)) && one_each n ss) e in
    let r = and_parts (not (is_some (on_slips ss s.quarter))) (one_each n ss) p.1 in (
      ltb-true s.quarter n p.0,
      none_from (on_slips ss s.quarter) (not-true (is_some (on_slips ss s.quarter)) r.0),
      once_from_test n ss r.1,
    )

-- as many pairs as slips, and none at or beyond n
pub slips_tally : (n : ℕ) (ss : List Slip) → Once n ss → tally (on_slips ss) n ≡ length ss
slips_tally n [] t = total_none n (λ _. 1)
slips_tally n (s ∷ ss) t = omega (arith, total_added n (λ _. 1) (on_slips ss) s.quarter s.entry t.0 t.1, slips_tally n ss t.2)

pub slips_beyond : (n : ℕ) (ss : List Slip) (k : ℕ) → Once n ss → n ≤ k → on_slips ss k ≡ None
slips_beyond n [] k t h = refl
slips_beyond n (s ∷ ss) k t h = with_at_elsewhere (on_slips ss) s.quarter (Some s.entry) k (λ e. omega arith) ∙ slips_beyond n ss k t.2 h

-- no more pairs stand on the slips than there are slips, written and free
pub slips_fit : (n : ℕ) (ss : List Slip) (slips : ℕ) → Once n ss → length ss ≤ slips → tally (on_slips ss) n ≤ slips
slips_fit n ss slips t h = omega (arith, slips_tally n ss t)
