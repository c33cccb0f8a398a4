use Rattle.std.proofs.Common.{◌≡◌, ◌+◌, drop}
use Rattle.lines.specs.Text.{fields}
use Rattle.lines.specs.Unread.{unread}
use Rattle.lines.specs.Columns.{names}
use Rattle.lines.specs.Entries.{row_from, nothing}
use Rattle.lines.proofs.rows.read_entry.Given as goal

abbrev pub invariant-loop-column : goal.invariant-loop-column
invariant-loop-column l =
    (l.values.column ≡ l.column-index + 1)
    × (row_from l.values.column (drop l.column-index (names l.columns)) (unread l.values.fields) l.row ≡ row_from 1 (names l.columns) (fields l.line) nothing)
