use Rattle.std.proofs.Common.{◌≡◌, []}
use Rattle.lines.specs.Text.{fields}
use Rattle.lines.specs.Unread.{unread}
use Rattle.lines.specs.Names.{columns_from}
use Rattle.lines.specs.Columns.{names}
use Rattle.lines.proofs.names.read_columns.Given as goal

abbrev pub invariant-loop-name : goal.invariant-loop-name
invariant-loop-name l = columns_from (names l.columns) (unread l.name-iterator) ≡ columns_from [] (fields l.line)
