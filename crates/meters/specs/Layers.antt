-- What the layers over meters read, from what the meters below them read.
use Rattle.std.specs.Prelude.{ℕ, ◌+◌, ◌*◌, cond, ◌&&◌, Ok, Err, nat_le}
use Rattle.series.specs.declared.fault.Cause.TheVariants.{TooBig}
use Rattle.series.specs.Faults.{own_fault, raised}
use Rattle.series.specs.Limits.{Reading, reading_of}

-- both energies times a factor of 1 to 10,000
abbrev pub scaled : ℕ → Reading → ℕ → Reading
scaled factor (Err f) q = Err (raised f)
scaled factor (Ok e) q = cond (nat_le 1 factor && nat_le factor 10000) (reading_of (e.0 * factor) (e.1 * factor) q) (Err (own_fault TooBig q))

-- the energies of two meters together; the first meter's fault comes first
abbrev pub summed : Reading → Reading → ℕ → Reading
summed (Err f) second q = Err (raised f)
summed (Ok a) (Err f) q = Err (raised f)
summed (Ok a) (Ok b) q = reading_of (a.0 + b.0) (a.1 + b.1) q
