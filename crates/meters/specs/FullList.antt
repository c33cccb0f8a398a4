-- What a full value list has.
use Rattle.std.specs.Prelude.{ℕ, cond, List, Some, None, Err, Option, ◌==◌}
use Rattle.std.specs.List.{slice_get}
use Rattle.series.specs.declared.fault.Cause.TheVariants.{Missing}
use Rattle.series.specs.Faults.{own_fault}
use Rattle.series.specs.Limits.{Value, value_of}

-- what a number, or none, says of the quarter q: 4,294,967,295 stands for no value
abbrev pub number_value : Option ℕ → ℕ → Value
number_value None q = Err (own_fault Missing q)
number_value (Some n) q = cond (n == 4294967295) (Err (own_fault Missing q)) (value_of n q)

-- row q has the value of quarter q
abbrev pub full_value : List ℕ → ℕ → Value
full_value rows q = number_value (slice_get rows q) q
