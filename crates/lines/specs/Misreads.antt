-- How a misread line is told.
use Rattle.std.specs.Prelude.{ℕ}
use Rattle.lines.specs.declared.misread.Misread.{Misread}
use Rattle.lines.specs.declared.misread.Misread.TheVariants.{Name, Field}

-- the number that a misreading goes by
abbrev pub misread_number : Misread → ℕ
misread_number (Name column) = 14
misread_number (Field column) = 15

-- the column that it is about, counted from 1; 0 is the line as a whole
abbrev pub misread_column : Misread → ℕ
misread_column (Name column) = column
misread_column (Field column) = column
