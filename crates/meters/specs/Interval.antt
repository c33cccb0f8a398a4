-- What an interval meter reads.
use Rattle.std.specs.Prelude.{ℕ, cond, List, Some, None, Err, Option, ◌==◌}
use Rattle.std.specs.List.{slice_get}
use Rattle.series.specs.declared.fault.Cause.TheVariants.{Missing}
use Rattle.meters.specs.declared.interval.IntervalRow.{IntervalRow}
use Rattle.series.specs.Faults.{own_fault}
use Rattle.series.specs.Limits.{Reading, reading_of}

-- what a row, or none, says of the quarter q: only a row marked 1 counts
abbrev pub row_reading : Option IntervalRow → ℕ → Reading
row_reading None q = Err (own_fault Missing q)
row_reading (Some r) q = cond (r.mark == 1) (reading_of r.taken r.given q) (Err (own_fault Missing q))

-- row q says what was taken and given in quarter q
abbrev pub interval_reading : List IntervalRow → ℕ → Reading
interval_reading rows q = row_reading (slice_get rows q) q
