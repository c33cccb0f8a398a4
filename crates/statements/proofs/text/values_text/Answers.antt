use Rattle.std.proofs.Common.{ap, arith, rules, length}
use Rattle.statements.proofs.Lengths.{values_fit}
use Rattle.statements.proofs.text.values_text.Goals as goal

pub push_values-requires : goal.push_values-requires
push_values-requires c = omega (arith, values_fit c.args.s (search rules), ap length c.new-text.ensures)
