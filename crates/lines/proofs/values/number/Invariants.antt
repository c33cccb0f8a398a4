use Rattle.std.proofs.Common.{◌≡◌, ◌^◌, ◌<◌, drop}
use Rattle.lines.proofs.Numbers.{spelt_after}
use Rattle.lines.proofs.values.number.Given as goal

abbrev pub invariant-loop-b : goal.invariant-loop-b
invariant-loop-b l = (l.value < 10 ^ l.b-index) × (spelt_after l.value (drop l.b-index l.field) ≡ spelt_after 0 l.field)
