-- What a statement says of a year, and what becomes of it.
use Rattle.std.specs.Prelude.{◌≡◌, ℕ, ◌≤◌, Bool, true, cond, ◌&&◌, Some, None, Option, ◌==◌, nat_le}
use Rattle.entries.specs.declared.case.Case.{Case}
use Rattle.sums.specs.declared.totals.Totals.{Totals}
use Rattle.figures.specs.Figures.{figures_of}
use Rattle.figures.specs.Laws.{FeedInAddsUp}
use Rattle.sums.specs.Sums.{sum_limit}
use Rattle.statements.specs.declared.refusal.Total.{Total}
use Rattle.statements.specs.declared.refusal.Total.TheVariants.{Import, FeedIn}
use Rattle.statements.specs.declared.statement.Statement.{Statement}

-- the statement of the case c and the year y over n standing entries with the sums t
abbrev pub statement_of : Case → ℕ → ℕ → Totals → Statement
statement_of c y n t =
    record { case = c; year = y; entries = n; import = t.readings.import; feed_in = t.readings.feed_in; figures = figures_of c t }

-- what every drawn statement keeps: import and feed-in are within the limit on sums, and the feed-in adds up
abbrev pub Sound : Statement → Type 0
Sound s = (s.import ≤ sum_limit) × (s.feed_in ≤ sum_limit) × FeedInAddsUp s.feed_in s.figures

-- the first of the grid operator's totals that is another than the statement's
abbrev pub differing : Statement → ℕ → ℕ → Option Total
differing s import feed_in = cond (s.import == import) (cond (s.feed_in == feed_in) None (Some FeedIn)) (Some Import)

-- a statement can be filed under this number
abbrev pub fileable : ℕ → Bool
fileable n = nat_le 1 n && nat_le n 999999

-- not filed, or filed under a number that it can be
abbrev pub Filing : Option ℕ → Type 0
Filing None = Unit {0}
Filing (Some n) = fileable n ≡ true
