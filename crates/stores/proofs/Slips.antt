-- A row of slips on which a quarter is once at most.
use Rattle.std.specs.Prelude.{◌≡◌, ℕ, zero, suc, ◌<◌, Bool, true, false, cond, not, ◌&&◌, List, [], ◌∷◌, ◌++◌, length, is_some, Some, None, Option, ◌==◌, ◌≢◌, nat_lt, slice_index_or, slice_set, refl}
use Rattle.std.proofs.Common.{sym, ap, ◌∙◌, ◌⊎◌, inl, inr, arith}
use Rattle.std.proofs.Math.Path.{fun_ext}
use Rattle.std.specs.Option.{option_map}
use Rattle.std.specs.List.{slice_get, find, position, position_or_len}
use Rattle.std.proofs.lemmas.Bool.{and_from, lt-ltb, eq-eqb, cases_eq}
use Rattle.std.proofs.lemmas.Bool.Decides.{nat_tests}
use Rattle.std.proofs.lemmas.List.Folds.{find_at, find-set, find_past}
use Rattle.std.proofs.lemmas.List.Quantifiers.{position-Some}
use Rattle.std.proofs.lemmas.Option.{slice_get_cases, slice_get_past, slice_get-get_or}
use Rattle.entries.specs.declared.entry.Entry.{Entry}
use Rattle.entries.specs.Pairs.{updated, tally}
use Rattle.entries.proofs.Totals.{with_at_here, with_at_elsewhere}
use Rattle.stores.specs.declared.slip.Slip.{Slip}
use Rattle.stores.specs.Slips.{on_slips, one_each, quarter_on, Found}
use Rattle.stores.specs.StoreLaws.{Once, once_from_test, slips_tally}

-- the pairs are those of the first slip of each quarter
entry_first : (b : Bool) (s : Slip) (o : Option Slip) → cond b (Some s.entry) (option_map (λ t. t.entry) o) ≡ option_map (λ t. t.entry) (cond b (Some s) o)
entry_first true s o = refl
entry_first false s o = refl

on_first : (ss : List Slip) (q : ℕ) → on_slips ss q ≡ option_map (λ s. s.entry) (find (λ s. s.quarter == q) ss)
on_first [] q = refl
on_first (s ∷ ss) q = ap (cond (s.quarter == q) (Some s.entry)) (on_first ss q) ∙ entry_first (s.quarter == q) s (find (λ t. t.quarter == q) ss)

first_on : (ss : List Slip) (q : ℕ) → on_slips ss q ≡ option_map (λ s. s.entry) (slice_get ss (position_or_len (λ s. s.quarter == q) ss))
first_on ss q = on_first ss q ∙ ap (option_map (λ s. s.entry)) (find_at (λ s. s.quarter == q) ss)

-- so that `position` finds them
pub slips_missed : (ss : List Slip) (q : ℕ) → position (λ s. s.quarter == q) ss ≡ None → on_slips ss q ≡ None
slips_missed ss q e =
    first_on ss q ∙ ap (option_map (λ s. s.entry)) (slice_get_past ss (position_or_len (λ s. s.quarter == q) ss) (grind (arith, nat_tests)))

pub slips_found : (ss : List Slip) (q i : ℕ) → position (λ s. s.quarter == q) ss ≡ Some i → Found ss q i
slips_found ss q i e =
    elim (slice_get_cases ss i).1 [
      | inl (s, within, at, read) ↦ found s at read
      | inr past ↦ absurd (grind (arith, nat_tests))
    ]
  where
    found : (s : Slip) → slice_get ss i ≡ Some s → slice_index_or ss i s ≡ s → Found ss q i
    found s at read =
        let h = position-Some (λ t. t.quarter == q) ss i s e in
        let place : i ≡ position_or_len (λ t. t.quarter == q) ss = grind (arith, nat_tests) in
        let own : s.quarter ≡ q = grind (arith, nat_tests, h.1) in
        let entry : option_map (λ t. t.entry) (slice_get ss i) ≡ on_slips ss q =
        ap (λ k. option_map (λ t. t.entry) (slice_get ss k)) place ∙ sym (first_on ss q) in
        record { within = h.0; quarter = ap (option_map (λ t. t.quarter)) at ∙ ap Some own; entry = entry; stands = ap is_some (sym entry ∙ ap (option_map (λ t. t.entry)) at) }

-- a quarter stands where it is found
pub stands_where_found : (ss : List Slip) (q : ℕ) → is_some (on_slips ss q) ≡ is_some (position (λ s. s.quarter == q) ss)
stands_where_found ss q = by_place (position (λ s. s.quarter == q) ss) refl
  where
    by_place : (o : Option ℕ) → position (λ s. s.quarter == q) ss ≡ o → is_some (on_slips ss q) ≡ is_some o
    by_place None e = ap is_some (slips_missed ss q e)
    by_place (Some i) e = (slips_found ss q i e).stands

-- what stands at a quarter is on the slip that is found. The first part is trivially true: it gives `grind` the term to match
pub slips_at : (ss : List Slip) (q : ℕ)
    → (on_slips ss q ≡ on_slips ss q)
    × (((i : ℕ) × (position (λ s. s.quarter == q) ss ≡ Some i) × ((d : Slip) → on_slips ss q ≡ Some (slice_index_or ss i d).entry))
    ⊎ ((position (λ s. s.quarter == q) ss ≡ None) × (on_slips ss q ≡ None)))
slips_at ss q = (refl, by_place (position (λ s. s.quarter == q) ss) refl)
  where
    by_place : (o : Option ℕ) → position (λ s. s.quarter == q) ss ≡ o
        → ((i : ℕ) × (position (λ s. s.quarter == q) ss ≡ Some i) × ((d : Slip) → on_slips ss q ≡ Some (slice_index_or ss i d).entry))
        ⊎ ((position (λ s. s.quarter == q) ss ≡ None) × (on_slips ss q ≡ None))
    by_place None e = inr (e, slips_missed ss q e)
    by_place (Some i) e =
        let f = slips_found ss q i e in
        inl (i, e, λ d. sym f.entry ∙ ap (option_map (λ s. s.entry)) (slice_get-get_or ss i d f.within))

-- the first slip of a quarter written over with one of the same quarter
slips_set_at : (ss : List Slip) (i : ℕ) (w : Slip) → position (λ s. s.quarter == w.quarter) ss ≡ Some i
    → (k : ℕ) → on_slips (slice_set ss i w) k ≡ updated (on_slips ss) w.quarter w.entry k
slips_set_at ss i w e k =
    let h = position-Some (λ s. s.quarter == w.quarter) ss i w e in
    elim (cases_eq k w.quarter) [
      | inl m ↦
          rw m (on_first (slice_set ss i w) w.quarter
          ∙ ap (option_map (λ s. s.entry)) (find-set (λ s. s.quarter == w.quarter) ss i w (grind (arith, nat_tests)) h.0 (eq-eqb w.quarter w.quarter refl))
          ∙ sym (with_at_here (on_slips ss) w.quarter (Some w.entry)))
      | inr ne ↦
          on_first (slice_set ss i w) k
          ∙ ap (option_map (λ s. s.entry)) (find_past (λ s. s.quarter == k) ss i w w (grind (arith, nat_tests, h.1)) (grind (arith, nat_tests)))
          ∙ sym (on_first ss k)
          ∙ sym (with_at_elsewhere (on_slips ss) w.quarter (Some w.entry) k ne)
    ]

pub slips_set : (ss : List Slip) (i : ℕ) (w : Slip) → position (λ s. s.quarter == w.quarter) ss ≡ Some i
    → on_slips (slice_set ss i w) ≡ updated (on_slips ss) w.quarter w.entry
slips_set ss i w e = fun_ext (slips_set_at ss i w e)

-- which quarters stand is as it was
alike_cond : (b : Bool) (x y : Entry) (o r : Option Entry) → is_some o ≡ is_some r → is_some (cond b (Some x) o) ≡ is_some (cond b (Some y) r)
alike_cond true x y o r e = refl
alike_cond false x y o r e = e

stand_set : (ss : List Slip) (i : ℕ) (w : Slip) → quarter_on ss i ≡ Some w.quarter → (k : ℕ) → is_some (on_slips (slice_set ss i w) k) ≡ is_some (on_slips ss k)
stand_set [] i w e k = refl
stand_set (s ∷ ss) zero w e k = let m : w.quarter ≡ s.quarter = cc in rw m (alike_cond (s.quarter == k) w.entry s.entry (on_slips ss k) (on_slips ss k) refl)
stand_set (s ∷ ss) (suc i) w e k = alike_cond (s.quarter == k) s.entry s.entry (on_slips (slice_set ss i w) k) (on_slips ss k) (stand_set ss i w e k)

once_set : (n : ℕ) (ss : List Slip) (i : ℕ) (w : Slip) → quarter_on ss i ≡ Some w.quarter → one_each n (slice_set ss i w) ≡ one_each n ss
once_set n [] i w e = refl
once_set n (s ∷ ss) zero w e = let m : w.quarter ≡ s.quarter = cc in rw m refl
once_set n (s ∷ ss) (suc i) w e =
    ap (λ b. nat_lt s.quarter n && (not b && one_each n (slice_set ss i w))) (stand_set ss i w e s.quarter)
    ∙ ap (λ b. nat_lt s.quarter n && (not (is_some (on_slips ss s.quarter)) && b)) (once_set n ss i w e)

pub one_each_set : (n : ℕ) (ss : List Slip) (i : ℕ) (w : Slip) → position (λ s. s.quarter == w.quarter) ss ≡ Some i → one_each n (slice_set ss i w) ≡ one_each n ss
one_each_set n ss i w e = once_set n ss i w (slips_found ss w.quarter i e).quarter

-- one more slip at the end
none_parts : (s : Slip) (ss : List Slip) (q : ℕ) → on_slips (s ∷ ss) q ≡ None → (s.quarter ≢ q) × (on_slips ss q ≡ None)
none_parts s ss q e = (λ m. grind (arith, nat_tests), grind (arith, nat_tests))

slips_push_at : (ss : List Slip) (w : Slip) → on_slips ss w.quarter ≡ None → (k : ℕ) → on_slips (ss ++ w ∷ []) k ≡ updated (on_slips ss) w.quarter w.entry k
slips_push_at [] w e k = refl
slips_push_at (s ∷ ss) w e k =
    let p = none_parts s ss w.quarter e in
    grind (arith, nat_tests, p.0, slips_push_at ss w p.1 k)

pub slips_push : (ss : List Slip) (w : Slip) → on_slips ss w.quarter ≡ None → on_slips (ss ++ w ∷ []) ≡ updated (on_slips ss) w.quarter w.entry
slips_push ss w e = fun_ext (slips_push_at ss w e)

pub test_from_once : (n : ℕ) (ss : List Slip) → Once n ss → one_each n ss ≡ true
test_from_once n [] t = refl
test_from_once n (s ∷ ss) t =
    and_from (nat_lt s.quarter n) (not (is_some (on_slips ss s.quarter)) && one_each n ss)
    (lt-ltb s.quarter n t.0)
    (and_from (not (is_some (on_slips ss s.quarter))) (one_each n ss) (ap (λ o. not (is_some o)) t.1) (test_from_once n ss t.2))

pub once_push : (n : ℕ) (ss : List Slip) (w : Slip) → Once n ss → on_slips ss w.quarter ≡ None → w.quarter < n → Once n (ss ++ w ∷ [])
once_push n [] w t e h = (h, refl, tt)
once_push n (s ∷ ss) w t e h =
    let p = none_parts s ss w.quarter e in (
      t.0,
      slips_push_at ss w p.1 s.quarter ∙ with_at_elsewhere (on_slips ss) w.quarter (Some w.entry) s.quarter p.0 ∙ t.1,
      once_push n ss w t.2 p.1 h,
    )

pub one_each_push : (n : ℕ) (ss : List Slip) (w : Slip) → one_each n ss ≡ true → on_slips ss w.quarter ≡ None → w.quarter < n → one_each n (ss ++ w ∷ []) ≡ true
one_each_push n ss w t e h = test_from_once n (ss ++ w ∷ []) (once_push n ss w (once_from_test n ss t) e h)

-- as many pairs as slips
pub slips_counted : (n : ℕ) (ss : List Slip) → one_each n ss ≡ true → tally (on_slips ss) n ≡ length ss
slips_counted n ss e = slips_tally n ss (once_from_test n ss e)

-- what a put does
pub ruleset putting = (slips_counted, slips_missed, stands_where_found, slips_set, one_each_set, slips_push, one_each_push)
