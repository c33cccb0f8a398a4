-- The quarter and the entry that a line of values spells.
use Rattle.std.specs.Prelude.{◌≡◌, ℕ, ◌+◌, ◌<◌, ◌≤◌, false, cond, ◌⊎◌, List, [], ◌∷◌, length, Some, None, Ok, Err, Result, ◌==◌, slice_index_or}
use Rattle.entries.specs.declared.entry.Entry.{Entry}
use Rattle.entries.specs.declared.readings.Mark.{Mark}
use Rattle.entries.specs.declared.readings.Mark.TheVariants.{Import, FeedIn, Drawn, Given, StorageDrawn, StorageGiven}
use Rattle.entries.specs.declared.readings.Readings.{Readings}
use Rattle.entries.specs.Marks.{mark_number, reading}
use Rattle.lines.specs.declared.column.Column.{Column}
use Rattle.lines.specs.declared.column.Column.TheVariants.{Quarter, Value, Reading}
use Rattle.lines.specs.declared.misread.Misread.{Misread}
use Rattle.lines.specs.declared.misread.Misread.TheVariants.{Name, Field}
use Rattle.lines.specs.Text.{fields, of_line, First}
use Rattle.lines.specs.Names.{has}
use Rattle.lines.specs.Values.{number_of, first_value, others, ends_with}

-- what a quarter and its entry have in a column
abbrev pub amount : Column → ℕ → Entry → ℕ
amount Quarter q e = q
amount Value q e = e.value
amount (Reading m) q e = reading m e.readings

-- the readings that have f of each mark at it
abbrev pub readings_by : (Mark → ℕ) → Readings
readings_by f = record {
  import = f Import;
  feed_in = f FeedIn;
  drawn = f Drawn;
  given = f Given;
  storage_drawn = f StorageDrawn;
  storage_given = f StorageGiven;
}

-- the readings, but for v at the mark m
abbrev pub with_reading : Mark → ℕ → Readings → Readings
with_reading m v r = readings_by (λ k. cond (mark_number m == mark_number k) v (reading k r))

-- a quarter and its entry, but for v in a column
abbrev pub with_amount : Column → ℕ → ℕ × Entry → ℕ × Entry
with_amount Quarter v row = (v, row.1)
with_amount Value v row = (row.0, record { readings = row.1.readings; value = v })
with_amount (Reading m) v row = (row.0, record { readings = with_reading m v row.1.readings; value = row.1.value })

-- 0 in every column
abbrev pub nothing : ℕ × Entry
nothing = (0, record { readings = readings_by (λ _. 0); value = 0 })

-- the row once the fields fs, the first of which is column k, have gone to the columns ns
abbrev pub row_from : ℕ → List Column → List (List ℕ) → ℕ × Entry → Result (ℕ × Entry) Misread
row_from k [] fs row = ends_with row k fs
row_from k (n ∷ ns) fs row = elim (first_value k fs) [ Err e ↦ Err e | Ok v ↦ row_from (k + 1) ns (others fs) (with_amount n v row) ]

-- the quarter and the entry that a line spells in the columns ns; a column that is absent has 0
unfoldable pub spelt : List Column → List ℕ → Result (ℕ × Entry) Misread
spelt ns line = of_line line (row_from 1 ns (fields line) nothing)

-- a line spells q and e in the columns ns: a field for each, which spells what they have there; elsewhere they have 0
pub record Spells (ns : List Column) (line : List ℕ) (q : ℕ) (e : Entry) : Type 0 where
  pub short : length line ≤ 200
  pub as_many : length (fields line) ≡ length ns
  pub each : (i : ℕ) → i < length ns → number_of (slice_index_or (fields line) i []) ≡ Some (amount (slice_index_or ns i Quarter) q e)
  pub absent : (c : Column) → has c ns ≡ false → amount c q e ≡ 0

-- of n columns, the one at place i is malformed, lacking or one too many
abbrev pub BadField : ℕ → List (List ℕ) → ℕ → Type 0
BadField n fs i = ((i < length fs) × (number_of (slice_index_or fs i []) ≡ None)) ⊎ (((length fs ≤ i) × (i < n)) ⊎ ((n ≤ i) × (i < length fs)))

-- column k, counted from 1, is the first of a line whose value is bad
pub record Misspelt (ns : List Column) (line : List ℕ) (k : ℕ) : Type 0 where
  pub short : length line ≤ 200
  pub place : ℕ
  pub column : k ≡ place + 1
  pub first : First (BadField (length ns) (fields line)) place

-- what an answer says of the line that it was read from
abbrev pub Tells : List Column → List ℕ → Result (ℕ × Entry) Misread → Type 0
Tells ns line (Ok row) = Spells ns line row.0 row.1
Tells ns line (Err (Name k)) = ⊥
Tells ns line (Err (Field k)) = ((k ≡ 0) × (200 < length line)) ⊎ Misspelt ns line k
