-- A row of places, changed at one.
use Rattle.std.proofs.Common.{◌≡◌, ℕ, ◌+◌, ◌<◌, List, length, get_or, set, replicate, cond, is_some, Some, None, Option, sym, refl, ap, ◌∙◌, inl, inr, arith}
use Rattle.std.proofs.Math.Path.{fun_ext}
use Rattle.std.proofs.lemmas.Bool.{cases_eq, cases_lt}
use Rattle.std.proofs.lemmas.List.{get_or-set_same, get_or-set_other, get_or_read_under, get_or_past, get_or-replicate, length-replicate}
use Rattle.entries.specs.declared.entry.Entry.{Entry}
use Rattle.entries.specs.Pairs.{no_pairs, updated, or_zero, tally}
use Rattle.entries.proofs.Totals.{with_at_here, with_at_elsewhere, total_none, total_changed}
use Rattle.stores.specs.Places.{in_places}
use Rattle.stores.specs.StoreLaws.{tally_le}
use Rattle.stores.proofs.Puts.{never_full}

-- an entry written into a place
pub places_entered : (xs : List (Option Entry)) (q : ℕ) (e : Entry) → q < length xs → in_places (set xs q (Some e)) ≡ updated (in_places xs) q e
places_entered xs q e h = fun_ext (λ k. elim (cases_eq k q) [
  | inl m ↦ rw m (get_or-set_same xs q (Some e) None h ∙ sym (with_at_here (in_places xs) q (Some e)))
  | inr ne ↦ get_or-set_other xs q k (Some e) None ne ∙ sym (with_at_elsewhere (in_places xs) q (Some e) k ne)
])

-- and one more is counted, if the place was empty
counts : (o : Option Entry) → or_zero (λ _. 1) o ≡ cond (is_some o) 1 0
counts None = refl
counts (Some e) = refl

places_counted : (xs : List (Option Entry)) (q n : ℕ) (e : Entry) (o : Option Entry) → q < n → n ≡ length xs → o ≡ get_or xs q o
    → tally (in_places (set xs q (Some e))) n + cond (is_some o) 1 0 ≡ tally (in_places xs) n + 1
places_counted xs q n e o h l r =
    omega (
      arith,
      ap (λ p. tally p n) (places_entered xs q e (omega arith)),
      total_changed n (λ _. 1) (in_places xs) q (Some e) h,
      ap (or_zero (λ _. 1)) (get_or_read_under xs q n o None r h l),
      counts o,
    )

-- the same, for whatever is read from the place. The first part is trivially true: it gives `grind` the term to match
pub place_counted : (xs : List (Option Entry)) (q n : ℕ) (e : Entry) → q < n → n ≡ length xs
    → (tally (in_places (set xs q (Some e))) n ≡ tally (in_places (set xs q (Some e))) n)
    × ((o : Option Entry) → o ≡ get_or xs q o → tally (in_places (set xs q (Some e))) n + cond (is_some o) 1 0 ≡ tally (in_places xs) n + 1)
place_counted xs q n e h l = (refl, λ o r. places_counted xs q n e o h l r)

-- what a put does
pub ruleset entering = (tally_le, never_full, places_entered, place_counted)

-- a row of empty places: no pair, and so none is counted
pub places_empty : (n : ℕ) → in_places (replicate n None) ≡ no_pairs
places_empty n = fun_ext (λ k. elim (cases_lt k n) [
  | inl h ↦ get_or-replicate n k None None h
  | inr h ↦ get_or_past (replicate n None) k None (omega (arith, length-replicate {A = Option Entry} n None))
])

pub none_counted : (xs : List (Option Entry)) (n m : ℕ) → xs ≡ replicate n None → tally (in_places xs) m ≡ 0
none_counted xs n m e = ap (λ r. tally r m) (ap in_places e ∙ places_empty n) ∙ total_none m (λ _. 1)
