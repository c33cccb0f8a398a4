use Rattle.std.proofs.Common.{◌≡◌, ◌++◌, map, take}
use Rattle.std.specs.Fmt.{signed_decimal}
use Rattle.statements.specs.Printed.{fields}
use Rattle.statements.proofs.text.push_fields.Given as goal

abbrev pub invariant-loop-value : goal.invariant-loop-value
invariant-loop-value l = l.text.bytes ≡ l.initial.text.bytes ++ fields (map signed_decimal (take l.value-index l.values))
