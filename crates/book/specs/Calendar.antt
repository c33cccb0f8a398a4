-- The quarters of a year.
use Rattle.std.specs.Prelude.{ℕ, ◌%◌, cond, ◌==◌}

-- how many quarter-hours a year has: a leap year has a day more, and the year 0, before any has begun, has none
unfoldable pub quarters : ℕ → ℕ
quarters y = cond (y == 0) 0 (cond (y % 4 == 0) 35136 35040)
