-- The row that holds is the last in the list, the first in the turned list, and the one that `held` computes. Assumes nothing.
use Rattle.std.proofs.Common.{◌≡◌, ℕ, zero, suc, ◌+◌, ◌-◌, ◌<◌, ◌≤◌, cond, leb, List, [], ◌∷◌, length, reverse, get_or, Some, None, Option, MatchOption, Bor, sym, refl, ap, ◌∙◌, subst, ⊎_elim, arith}
use Rattle.std.specs.Option.{option_or, option_map}
use Rattle.std.specs.List.{slice_get, AllWithin, HoldsAt}
use Rattle.std.proofs.lemmas.Option.{slice_get-get_or, slice_get_within, get_or_from_slice_get}
use Rattle.std.proofs.lemmas.List.{get_or-reverse, length-reverse}
use Rattle.std.proofs.lemmas.Bool.{cases_lt, le-leb, lt-leb, cond-true, cond-false}
use Rattle.meters.specs.declared.change.Change.{Change}
use Rattle.meters.specs.Changes.{NoneHoldsFrom, LastThatHolds, held, HeldIsLast}

-- what holds of the places of a list, one place on in a longer one
longer : (c : Change) (rows : List Change) (q i : ℕ) → NoneHoldsFrom i rows q → NoneHoldsFrom (suc i) (c ∷ rows) q
longer c rows q i none zero lo lt = absurd (omega arith)
longer c rows q i none (suc k) lo lt = none k (omega arith) (omega arith)

none_with : (c : Change) (rows : List Change) (q : ℕ) → q < c.quarter → NoneHoldsFrom 0 rows q → NoneHoldsFrom 0 (c ∷ rows) q
none_with c rows q above none zero lo lt = above
none_with c rows q above none (suc k) lo lt = none k (omega arith) (omega arith)

-- a row before the others is the last that holds just where none of them does, and it does
before : (c : Change) (rows : List Change) (q : ℕ) (o : Option Change) → LastThatHolds rows q o → LastThatHolds (c ∷ rows) q (option_or o (cond (leb c.quarter q) (Some c) None))
before c rows q (Some x) last = (suc last.0, last.1, last.2, λ k lo lt. longer c rows q (last.0 + 1) last.3 k (omega arith) lt)
before c rows q None none = ⊎_elim above reached (cases_lt q c.quarter)
  where
    above : q < c.quarter → LastThatHolds (c ∷ rows) q (cond (leb c.quarter q) (Some c) None)
    above lt = subst (LastThatHolds (c ∷ rows) q) (sym (cond-false _ _ _ (lt-leb _ _ lt))) (none_with c rows q lt none)

    reached : c.quarter ≤ q → LastThatHolds (c ∷ rows) q (cond (leb c.quarter q) (Some c) None)
    reached le = subst (LastThatHolds (c ∷ rows) q) (sym (cond-true _ _ _ (le-leb _ _ le))) (0, refl, le, longer c rows q 0 none)

-- what is computed is the last row that holds
pub held_is_last : (rows : List Change) (q : ℕ) → HeldIsLast rows q
held_is_last [] q = λ k lo lt. absurd (omega arith)
held_is_last (c ∷ later) q = before c later q (held later q) (held_is_last later q)

-- a row that holds stands nowhere that none holds
held_within : (rows : List Change) (q i j : ℕ) (c : Change) → slice_get rows i ≡ Some c → c.quarter ≤ q → NoneHoldsFrom j rows q → i < j
held_within rows q i j c at le none =
    let d : Change = record { quarter = 0; value = 0 } in
    let here : get_or rows i d ≡ c = get_or_from_slice_get rows i c d at in
    ⊎_elim (λ lt. lt) (λ past.
    let above : q < (get_or rows i d).quarter = none i past (slice_get_within rows i c at) in
    let same : (get_or rows i d).quarter ≡ c.quarter = ap (λ r. r.quarter) here in absurd (omega arith)) (cases_lt i j)

-- there is one last row that holds, or none
pub one_last : (rows : List Change) (q : ℕ) (a b : Option Change) → LastThatHolds rows q a → LastThatHolds rows q b → a ≡ b
one_last rows q None None _ _ = refl
one_last rows q None (Some y) none last = let lt : last.0 < 0 = held_within rows q last.0 0 y last.1 last.2 none in absurd (omega arith)
one_last rows q (Some x) None last none = let lt : last.0 < 0 = held_within rows q last.0 0 x last.1 last.2 none in absurd (omega arith)
one_last rows q (Some x) (Some y) (i, at_i, le_i, none_i) (j, at_j, le_j, none_j) =
    let i_low : i < j + 1 = held_within rows q i (j + 1) x at_i le_i none_j in
    let j_low : j < i + 1 = held_within rows q j (i + 1) y at_j le_j none_i in
    let same : i ≡ j = omega arith in
    sym at_i ∙ ap (slice_get rows) same ∙ at_j

-- one place of the list, read from its end
from_end : (rows : List Change) (k : ℕ) (d : Change) → k < length rows → get_or (reverse rows) (length rows - 1 - k) d ≡ get_or rows k d
from_end rows k d lt =
    let at : length rows - 1 - (length rows - 1 - k) ≡ k = omega arith in
    get_or-reverse rows (length rows - 1 - k) d (omega arith) ∙ ap (λ i. get_or rows i d) at

-- the first row that holds in the turned list is the last that holds in the list
pub first_is_last : (rows : List Change) (q : ℕ) (r : Option (Bor Change))
    → MatchOption r (AllWithin (λ c. q < c.quarter) (reverse rows) 0 (length (reverse rows)))
    (λ x. (x.now.quarter ≤ q) × (i : ℕ) × (i < length (reverse rows)) × HoldsAt (λ y. y ≡ x.now) (reverse rows) i × AllWithin (λ c. q < c.quarter) (reverse rows) 0 i)
    → LastThatHolds rows q (option_map (λ x. x.now) r)
first_is_last rows q None all = λ k lo lt.
    let d : Change = record { quarter = 0; value = 0 } in
    let above : q < (get_or (reverse rows) (length rows - 1 - k) d).quarter = all (length rows - 1 - k) d (omega arith) (omega (arith, length-reverse rows)) in
    rw (from_end rows k d lt) at above
first_is_last rows q (Some x) found =
    let d : Change = record { quarter = 0; value = 0 } in
    let n = length-reverse rows in
    let i = length rows - 1 - found.1 in
    let turn : length rows - 1 - i ≡ found.1 = omega (arith, n, found.2) in
    let here : get_or rows i d ≡ x.now = sym (from_end rows i d (omega (arith, n, found.2))) ∙ ap (λ k. get_or (reverse rows) k d) turn ∙ found.3 d in (
      i,
      slice_get-get_or rows i d (omega (arith, n, found.2)) ∙ ap Some here,
      found.0,
      λ k lo lt.
          let above : q < (get_or (reverse rows) (length rows - 1 - k) d).quarter = found.4 (length rows - 1 - k) d (omega arith) (omega (arith, n, found.2)) in
          rw (from_end rows k d lt) at above,
    )
