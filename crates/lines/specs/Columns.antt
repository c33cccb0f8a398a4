-- The columns that a file has.
use Rattle.std.specs.Prelude.{List, take}
use Rattle.lines.specs.declared.column.Column.{Column}
use Rattle.lines.specs.declared.columns.Columns.{Columns}

-- the names of the columns, in their order
abbrev pub names : Columns → List Column
names cs = take cs.count cs.names
