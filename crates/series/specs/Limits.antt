-- What meters and value lists answer, and the limits of it. Assumes nothing.
use Rattle.std.specs.Prelude.{ℕ, ◌≤◌, cond, ◌&&◌, Ok, Err, Result, nat_le}
use Rattle.series.specs.declared.fault.Cause.TheVariants.{TooBig}
use Rattle.series.specs.declared.fault.Fault.{Fault}
use Rattle.series.specs.Faults.{own_fault}

-- a meter's answer for a quarter: taken and given energy in Wh, or a fault
abbrev pub Reading : Type 0
Reading = Result (ℕ × ℕ) Fault

-- a value list's answer for a quarter: a value, or a fault
abbrev pub Value : Type 0
Value = Result ℕ Fault

-- taken and given energy of the quarter q, where both are at most 1,000,000 Wh
abbrev pub reading_of : ℕ → ℕ → ℕ → Reading
reading_of taken given q = cond (nat_le taken 1000000 && nat_le given 1000000) (Ok (taken, given)) (Err (own_fault TooBig q))

-- the value n of the quarter q, where it is at most 100,000
abbrev pub value_of : ℕ → ℕ → Value
value_of n q = cond (nat_le n 100000) (Ok n) (Err (own_fault TooBig q))

-- energies are at most 1,000,000 Wh
abbrev pub ReadingWithin : Reading → Type 0
ReadingWithin (Ok e) = (e.0 ≤ 1000000) × (e.1 ≤ 1000000)
ReadingWithin (Err f) = Unit {0}

-- values are at most 100,000
abbrev pub ValueWithin : Value → Type 0
ValueWithin (Ok v) = v ≤ 100000
ValueWithin (Err f) = Unit {0}
