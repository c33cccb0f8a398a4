-- What is still to be read of a line, or of a text.
use Rattle.std.specs.Prelude.{ℕ, List}
use Rattle.lines.specs.declared.fields.Fields.{Fields}
use Rattle.lines.specs.declared.text.Lines.{Lines}
use Rattle.lines.specs.Text.{lines, pieces}

-- the fields that are still to be read
abbrev pub unread : Fields → List (List ℕ)
unread fields = pieces 59 fields.rest

-- the lines that are still to be read
abbrev pub lines_left : Lines → List (List ℕ)
lines_left it = lines it.rest.now
