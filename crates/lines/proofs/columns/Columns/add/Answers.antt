use Rattle.std.proofs.Common.{◌≡◌, sym, ◌∙◌, arith, Some}
use Rattle.lines.specs.Columns.{names}
use Rattle.lines.specs.Names.{new_column}
use Rattle.lines.proofs.Among.{room_left, different_more}
use Rattle.lines.proofs.columns.Columns.add.Goals as goal

pub bounds-self-self : goal.bounds-self-self
bounds-self-self c =
    room_left c.args.self.now (omega arith) c.args.name.now c.in_ok-column.column (sym c.new_column.ensures ∙ c.in_ok-column.ensures.ok_part)

pub invariant_of-self : goal.invariant_of-self
invariant_of-self c =
    let some : new_column (names c.args.self.now) c.args.name.now ≡ Some c.in_ok-column.column = sym c.new_column.ensures ∙ c.in_ok-column.ensures.ok_part in
    let room = room_left c.args.self.now (omega arith) c.args.name.now c.in_ok-column.column some in
    record { few = omega arith; distinct = different_more c.args.self.now (omega arith) c.args.name.now c.in_ok-column.column some }
