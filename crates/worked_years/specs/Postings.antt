-- A year's entries as a list.
use Rattle.std.specs.Prelude.{◌≡◌, ℕ, ◌+◌, Bool, true, not, ◌&&◌, List, [], ◌∷◌, ◌++◌, is_some, Some, nat_lt}
use Rattle.std.specs.List.{list_all}
use Rattle.entries.specs.declared.case.Case.{Case}
use Rattle.entries.specs.declared.entry.Entry.{Entry}
use Rattle.entries.specs.declared.readings.Mark.{Mark}
use Rattle.entries.specs.declared.readings.Readings.{Readings}
use Rattle.entries.specs.Entries.{within_limits}
use Rattle.entries.specs.Pairs.{Pairs, most_quarters, no_pairs, updated}
use Rattle.sums.specs.declared.totals.Totals.{Totals}
use Rattle.sums.specs.Sums.{past}
use Rattle.sums.specs.Year.{gather}
use Rattle.worked_years.specs.declared.years.Posting.{Posting}

-- the entry of a quarter, from its readings and its applicable value
abbrev pub posting : ℕ → Readings → ℕ → Posting
posting q r v = record { quarter = q; entry = record { readings = r; value = v } }

-- the pairs that a list of postings makes
abbrev pub pairs_of : List Posting → Pairs
pairs_of [] = no_pairs
pairs_of (x ∷ xs) = updated (pairs_of xs) x.quarter x.entry

-- each quarter is of the longest year and stands once in the list
abbrev pub apart : List Posting → Bool
apart [] = true
apart (x ∷ xs) = nat_lt x.quarter most_quarters && (not (is_some (pairs_of xs x.quarter)) && apart xs)

-- an amount summed over the list
abbrev pub sum_over : List Posting → (Entry → ℕ) → ℕ
sum_over [] f = 0
sum_over (x ∷ xs) f = sum_over xs f + f x.entry

-- the sums of the list's entries
abbrev pub list_totals : List Posting → Totals
list_totals xs = gather (sum_over xs)

-- at some posting, the first where one does, the sum at the mark m would pass its limit
abbrev pub StopsAt : List Posting → Mark → Type 0
StopsAt xs m =
    (done : List Posting) × (x : Posting) × (rest : List Posting) × (xs ≡ done ++ (x ∷ rest)) × (past (list_totals done) x.entry ≡ Some m)

-- every entry keeps the limits of the case
abbrev pub all_within : Case → List Posting → Bool
all_within c xs = list_all (λ x. within_limits c x.entry) xs
