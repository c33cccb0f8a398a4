-- How an input ends: each of its lines in turn is read, and spells a call that the sheet kept by hand answers; the first refusal ends it.
use Rattle.std.specs.Prelude.{ℕ, ◌+◌, Bool, true, false, List, [], ◌∷◌, None, Ok, Err, Result}
use Rattle.arrayvec.specs.ArrayString.{ArrayString}
use Rattle.lines.specs.declared.column.Column.{Column}
use Rattle.lines.specs.declared.misread.Misread.{Misread}
use Rattle.lines.specs.Misreads.{misread_number, misread_column}
use Rattle.lines.specs.Text.{lines, heading_in}
use Rattle.lines.specs.Names.{columns_in}
use Rattle.lines.specs.Values.{pair_in}
use Rattle.lines.specs.Entries.{spelt}
use Rattle.statements.specs.declared.statement.Statement.{Statement}
use Rattle.statements.specs.Printed.{text, refusal_text}
use Rattle.book.specs.Sheet.{Sheet, Call, begin, post, Outcome, accepted, refused, drafted, outcome, after, statement}

-- with the statement over the entries, or refused: the line, counted from 1, the refusal's number, and what is told beside it
pub data Ending : Type 0 where
  stated : Statement → Ending
  refused_at : ℕ → ℕ → List ℕ → Ending

-- NAME (14), column 1, at a line that the input lacks
abbrev pub lacking_line : ℕ → Ending
lacking_line n = refused_at n 14 (1 ∷ [])

-- what is read of line n, and how the input goes on from there
abbrev pub read_then : {A : Type 0} → ℕ → Result A Misread → (A → Ending) → Ending
read_then n (Ok x) next = next x
read_then n (Err e) next = refused_at n (misread_number e) (misread_column e ∷ [])

-- the answer to the call that line n spells: a refusal ends the input, else it goes on
abbrev pub answered_then : ℕ → Outcome → Ending → Ending
answered_then n accepted next = next
answered_then n (refused k vs) next = refused_at n k vs
answered_then n (drafted d) next = next

-- the same of the call itself, on the sheet s; the input goes on from the sheet after it
abbrev pub call_then : ℕ → Sheet → Call → (Sheet → Ending) → Ending
call_then n s c next = answered_then n (outcome s c) (next (after s c))

-- the lines of values, after the first n lines: each is a post
unfoldable pub rows_end : List Column → Sheet → ℕ → List (List ℕ) → Ending
rows_end ns s n [] = stated (statement s)
rows_end ns s n (l ∷ ls) = read_then (n + 1) (spelt ns l) (λ row. call_then (n + 1) s (post row.0 row.1) (λ t. rows_end ns t (n + 1) ls))

-- from line 3 on: the names of the columns, then the lines of values
unfoldable pub names_end : Sheet → List (List ℕ) → Ending
names_end s [] = lacking_line 3
names_end s (l ∷ ls) = read_then 3 (columns_in l) (λ ns. rows_end ns s 3 ls)

-- from line 2 on: the case and the year to begin with
unfoldable pub begin_end : Sheet → List (List ℕ) → Ending
begin_end s [] = lacking_line 2
begin_end s (l ∷ ls) = read_then 2 (pair_in l) (λ p. call_then 2 s (begin p.0 p.1) (λ t. names_end t ls))

-- all lines: the heading first
unfoldable pub lines_end : Sheet → List (List ℕ) → Ending
lines_end s [] = lacking_line 1
lines_end s (l ∷ ls) = read_then 1 (heading_in l) (λ _. begin_end s ls)

-- an input, from the sheet s on
abbrev pub ending : Sheet → List ℕ → Ending
ending s input = lines_end s (lines input)

-- the place that is told of a refusal: the one value beside its number, else 0
abbrev pub place_beside : List ℕ → ℕ
place_beside [] = 0
place_beside (p ∷ []) = p
place_beside (p ∷ (q ∷ vs)) = 0

-- what is printed
abbrev pub output_text : Ending → List ℕ
output_text (stated d) = text d None
output_text (refused_at n k vs) = refusal_text k n (place_beside vs)

abbrev pub is_refused : Ending → Bool
is_refused (stated d) = false
is_refused (refused_at n k vs) = true

-- the text of an answer: of the statement, or of the refusal
abbrev pub told : Result ArrayString ArrayString → List ℕ
told (Ok text) = text.bytes
told (Err text) = text.bytes
