use Rattle.std.proofs.Common.{arith, Ok}
use Rattle.std.proofs.lemmas.Grind.{common_steps}
use Rattle.lines.specs.Columns.{names}
use Rattle.lines.proofs.Spelling.{row_stops, spells_told, spells_only}
use Rattle.lines.proofs.rows.read_entry.Goals as goal

pub returns-in_err-read-clause-spells : goal.returns-in_err-read-clause-spells
returns-in_err-read-clause-spells c = spells_told (names c.args.columns.now) c.args.line.now c.from_residual-in_err-read.result c.args.columns.now.distinct (grind (arith, common_steps, row_stops))

pub returns-in_err-read-clause-only : goal.returns-in_err-read-clause-only
returns-in_err-read-clause-only c = spells_only (names c.args.columns.now) c.args.line.now c.from_residual-in_err-read.result (grind (arith, common_steps, row_stops))

pub returns-in_err-end-clause-spells : goal.returns-in_err-end-clause-spells
returns-in_err-end-clause-spells c = spells_told (names c.args.columns.now) c.args.line.now c.from_residual-in_err-end.result c.args.columns.now.distinct (grind (arith, common_steps))

pub returns-in_err-end-clause-only : goal.returns-in_err-end-clause-only
returns-in_err-end-clause-only c = spells_only (names c.args.columns.now) c.args.line.now c.from_residual-in_err-end.result (grind (arith, common_steps))

pub returns-clause-spells : goal.returns-clause-spells
returns-clause-spells c = spells_told (names c.args.columns.now) c.args.line.now (Ok c.loop-column.row) c.args.columns.now.distinct (grind (arith, common_steps))

pub returns-clause-only : goal.returns-clause-only
returns-clause-only c = spells_only (names c.args.columns.now) c.args.line.now (Ok c.loop-column.row) (grind (arith, common_steps))
