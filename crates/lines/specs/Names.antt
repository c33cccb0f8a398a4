-- The names of a file's columns, and the line that has them.
use Rattle.std.specs.Prelude.{◌≡◌, ℕ, ◌+◌, ◌<◌, ◌≤◌, Bool, true, cond, not, ◌&&◌, ◌⊎◌, List, [], ◌∷◌, ◌++◌, length, Some, None, Ok, Err, codes, Option, Result, ◌==◌, ◌≢◌, slice_index_or}
use Rattle.std.specs.List.{list_all, list_any}
use Rattle.entries.specs.declared.readings.Mark.TheVariants.{Import, FeedIn, Drawn, Given, StorageDrawn, StorageGiven}
use Rattle.entries.specs.Marks.{mark_number}
use Rattle.lines.specs.declared.column.Column.{Column}
use Rattle.lines.specs.declared.column.Column.TheVariants.{Quarter, Value, Reading}
use Rattle.lines.specs.declared.misread.Misread.{Misread}
use Rattle.lines.specs.declared.misread.Misread.TheVariants.{Name, Field}
use Rattle.lines.specs.Text.{fields, of_line, same_bytes, First}

-- how the name of a column is written
abbrev pub written : Column → List ℕ
written Quarter = codes "Q"
written Value = codes "AW"
written (Reading Import) = codes "Z1NB"
written (Reading FeedIn) = codes "Z1NE"
written (Reading Drawn) = codes "Z2V"
written (Reading Given) = codes "Z2E"
written (Reading StorageDrawn) = codes "Z3V"
written (Reading StorageGiven) = codes "Z3E"

-- the columns that every file has
abbrev pub needed : List Column
needed = Quarter ∷ Value ∷ Reading Import ∷ Reading FeedIn ∷ Reading Drawn ∷ Reading Given ∷ []

-- the columns that a file may have
abbrev pub known : List Column
known = Quarter ∷ Reading Import ∷ Reading FeedIn ∷ Reading Drawn ∷ Reading Given ∷ Reading StorageDrawn ∷ Reading StorageGiven ∷ Value ∷ []

-- the place of a column among those, by which two are told apart
abbrev pub column_number : Column → ℕ
column_number Quarter = 0
column_number Value = 7
column_number (Reading m) = mark_number m

-- two columns are the same
abbrev pub same_column : Column → Column → Bool
same_column c d = column_number c == column_number d

-- c is among some columns
abbrev pub has : Column → List Column → Bool
has c ns = list_any (λ d. same_column d c) ns

-- no two columns are the same
abbrev pub all_different : List Column → Bool
all_different [] = true
all_different (c ∷ cs) = not (has c cs) && all_different cs

-- each of the columns cs is among ns
abbrev pub has_all : List Column → List Column → Bool
has_all cs ns = list_all (λ c. has c ns) cs

-- the first of the columns cs whose name is written as f
abbrev pub written_as : List Column → List ℕ → Option Column
written_as [] f = None
written_as (c ∷ cs) f = cond (same_bytes f (written c)) (Some c) (written_as cs f)

-- the column whose name is written as f
abbrev pub column_of : List ℕ → Option Column
column_of f = written_as known f

-- a column, unless it is among those before it
abbrev pub unless_among : List Column → Option Column → Option Column
unless_among before None = None
unless_among before (Some c) = cond (has c before) None (Some c)

-- the column whose name is written as f, unless it is among those before it
abbrev pub new_column : List Column → List ℕ → Option Column
new_column before f = unless_among before (column_of f)

-- the columns that the fields fs name, after those before them
abbrev pub columns_from : List Column → List (List ℕ) → Result (List Column) Misread
columns_from before [] = cond (has_all needed before) (Ok before) (Err (Name (length before + 1)))
columns_from before (f ∷ fs) = elim (new_column before f) [
  | None ↦ Err (Name (length before + 1))
  | Some c ↦ columns_from (before ++ c ∷ []) fs
]

-- the columns that a line names
unfoldable pub columns_in : List ℕ → Result (List Column) Misread
columns_in line = of_line line (columns_from [] (fields line))

-- a line names the columns ns: each field is the next one's name, no two are the same, and the needed ones are there
pub record Names (line : List ℕ) (ns : List Column) : Type 0 where
  pub short : length line ≤ 200
  pub as_many : length (fields line) ≡ length ns
  pub each : (i : ℕ) → i < length ns → slice_index_or (fields line) i [] ≡ written (slice_index_or ns i Quarter)
  pub once : all_different ns ≡ true
  pub whole : has_all needed ns ≡ true

-- no column's name is written as f
abbrev pub Unknown : List ℕ → Type 0
Unknown f = (c : Column) → f ≢ written c

-- the field at place i stands before it too
abbrev pub Repeated : List (List ℕ) → ℕ → Type 0
Repeated fs i = (j : ℕ) × (j < i) × (slice_index_or fs j [] ≡ slice_index_or fs i [])

-- a needed column is named by no field
abbrev pub Lacking : List (List ℕ) → Type 0
Lacking fs = (c : Column) × (has c needed ≡ true) × ((j : ℕ) → j < length fs → slice_index_or fs j [] ≢ written c)

-- the column at place i is unknown or repeated; or the one after the last, where a needed one is lacking
abbrev pub BadName : List (List ℕ) → ℕ → Type 0
BadName fs i = ((i < length fs) × (Unknown (slice_index_or fs i []) ⊎ Repeated fs i)) ⊎ ((i ≡ length fs) × Lacking fs)

-- column k, counted from 1, is the first of a line whose name is bad
pub record Misnamed (line : List ℕ) (k : ℕ) : Type 0 where
  pub short : length line ≤ 200
  pub place : ℕ
  pub column : k ≡ place + 1
  pub first : First (BadName (fields line)) place

-- what a misreading says of the line of names
abbrev pub Misnames : List ℕ → Misread → Type 0
Misnames line (Name k) = Misnamed line k
Misnames line (Field k) = (k ≡ 0) × (200 < length line)
