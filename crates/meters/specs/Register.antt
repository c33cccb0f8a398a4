-- What a register meter reads.
use Rattle.std.specs.Prelude.{ℕ, ◌+◌, ◌-◌, cond, ◌&&◌, List, Some, None, Err, Option, nat_le}
use Rattle.std.specs.List.{slice_get}
use Rattle.series.specs.declared.fault.Cause.TheVariants.{Missing, Fell}
use Rattle.meters.specs.declared.register.RegisterRow.{RegisterRow}
use Rattle.series.specs.Faults.{own_fault}
use Rattle.series.specs.Limits.{Reading, reading_of}

-- what the counts at the start and at the end of the quarter q, where there are both, say of it
abbrev pub counts_reading : Option RegisterRow → Option RegisterRow → ℕ → Reading
counts_reading None end q = Err (own_fault Missing q)
counts_reading (Some a) None q = Err (own_fault Missing q)
counts_reading (Some a) (Some b) q =
    cond (nat_le a.taken b.taken && nat_le a.given b.given) (reading_of (b.taken - a.taken) (b.given - a.given) q) (Err (own_fault Fell q))

-- the quarter q lies between row q and row q + 1
abbrev pub register_reading : List RegisterRow → ℕ → Reading
register_reading rows q = counts_reading (slice_get rows q) (slice_get rows (q + 1)) q
