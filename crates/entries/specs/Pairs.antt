-- The pairs of quarter and entry that stand in a year: for each quarter its entry, or none; and sums over them.
use Rattle.std.specs.Prelude.{ℕ, zero, suc, ◌+◌, Some, None, Option, nat_eq}
use Rattle.std.specs.Map.{update}
use Rattle.entries.specs.declared.entry.Entry.{Entry}

-- the entry that stands at each quarter
abbrev pub Pairs : Type 0
Pairs = ℕ → Option Entry

-- the quarters of the longest year, a leap year
abbrev pub most_quarters : ℕ
most_quarters = 35136

-- no entry stands
abbrev pub no_pairs : Pairs
no_pairs k = None

-- the pairs with w at the quarter q, and every other quarter as it was
abbrev pub with_at : Pairs → ℕ → Option Entry → Pairs
with_at p q w = update nat_eq p q w

-- the pairs once e stands at q, in place of any older entry
abbrev pub updated : Pairs → ℕ → Entry → Pairs
updated p q e = with_at p q (Some e)

-- the pairs once q has none
abbrev pub without : Pairs → ℕ → Pairs
without p q = with_at p q None

-- f of an entry, and 0 where there is none
abbrev pub or_zero : (Entry → ℕ) → Option Entry → ℕ
or_zero f None = 0
or_zero f (Some e) = f e

-- the sum of f over the entries that stand below the quarter n
unfoldable pub total : (Entry → ℕ) → Pairs → ℕ → ℕ
total f p zero = 0
total f p (suc n) = total f p n + or_zero f (p n)

-- how many entries stand below the quarter n
abbrev pub tally : Pairs → ℕ → ℕ
tally p n = total (λ _. 1) p n
