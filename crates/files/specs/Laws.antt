-- The laws of how an input ends: a statement comes just where every line is accepted, and the first refusal ends the input.
use Rattle.std.specs.Prelude.{◌≡◌, ℕ, ◌+◌, ◌-◌, ◌<◌, ◌≤◌, ◌⊎◌, List, [], ◌∷◌, ◌++◌, map, length, take, Ok, Err, Result, slice_index_or}
use Rattle.std.specs.List.{AllByRecursion}
use Rattle.entries.specs.declared.entry.Entry.{Entry}
use Rattle.lines.specs.declared.column.Column.{Column}
use Rattle.lines.specs.declared.misread.Misread.{Misread}
use Rattle.lines.specs.Misreads.{misread_number, misread_column}
use Rattle.lines.specs.Text.{heading_in}
use Rattle.lines.specs.Names.{columns_in}
use Rattle.lines.specs.Values.{pair_in}
use Rattle.lines.specs.Entries.{spelt}
use Rattle.statements.specs.declared.statement.Statement.{Statement}
use Rattle.book.specs.Sheet.{Sheet, Call, begin, post, accepted, refused, outcome, statement}
use Rattle.book.specs.Runs.{outcomes, final}
use Rattle.files.specs.Endings.{Ending, stated, refused_at, lacking_line, lines_end}

-- a post for each line of values
abbrev pub posts_of : List (ℕ × Entry) → List Call
posts_of rows = map (λ row. post row.0 row.1) rows

-- the calls of an input: a begin, and the posts
abbrev pub calls_of : ℕ × ℕ → List (ℕ × Entry) → List Call
calls_of p rows = begin p.0 p.1 ∷ posts_of rows

-- every line is accepted: three lines are the heading, a case and a year, and the names of columns; the others spell entries in these columns; the sheet
-- accepts the begin and each post; and d is the statement over them
pub record Accepted (s : Sheet) (ls : List (List ℕ)) (d : Statement) : Type 0 where
  pub heading : List ℕ
  pub pair : List ℕ
  pub names : List ℕ
  pub rows : List (List ℕ)
  pub split : ls ≡ heading ∷ (pair ∷ (names ∷ rows))
  pub headed : heading_in heading ≡ Ok tt
  pub year : ℕ × ℕ
  pub begins : pair_in pair ≡ Ok year
  pub columns : List Column
  pub named : columns_in names ≡ Ok columns
  pub entries : List (ℕ × Entry)
  pub spells : map (spelt columns) rows ≡ map Ok entries
  pub accepts : AllByRecursion (λ o. o ≡ accepted) (outcomes s (calls_of year entries))
  pub states : d ≡ statement (final s (calls_of year entries))

-- what is read of a line is an error of the number k, with its column beside it
abbrev pub MisreadAs : {A : Type 0} → Result A Misread → ℕ → List ℕ → Type 0
MisreadAs r k vs = (e : Misread) × (r ≡ Err e) × (k ≡ misread_number e) × (vs ≡ misread_column e ∷ [])

-- what is read of a line spells a call that the sheet s refuses with the number k and the values vs beside it
abbrev pub RefusedAs : {A : Type 0} → Sheet → (A → Call) → Result A Misread → ℕ → List ℕ → Type 0
RefusedAs {A} s call r k vs = (x : A) × (r ≡ Ok x) × (outcome s (call x) ≡ refused k vs)

-- why the line l, which stands after these lines, is refused with the number k and the values vs beside it
abbrev pub CauseAt : Sheet → List (List ℕ) → List ℕ → ℕ → List ℕ → Type 0
-- line 1 is not the heading
CauseAt s [] l k vs = MisreadAs (heading_in l) k vs
-- line 2 does not spell a case and a year, or the sheet refuses to begin with them
CauseAt s (heading ∷ []) l k vs = MisreadAs (pair_in l) k vs ⊎ RefusedAs s (λ p. begin p.0 p.1) (pair_in l) k vs
-- line 3 does not spell names of columns
CauseAt s (heading ∷ (pair ∷ [])) l k vs = MisreadAs (columns_in l) k vs
-- a later line does not spell an entry in the columns of line 3, or the sheet refuses its post after the calls of the lines before
CauseAt s (heading ∷ (pair ∷ (names ∷ rows))) l k vs =
    (d : Statement) × (a : Accepted s (heading ∷ (pair ∷ (names ∷ rows))) d)
    × (MisreadAs (spelt a.columns l) k vs ⊎ RefusedAs (final s (calls_of a.year a.entries)) (λ row. post row.0 row.1) (spelt a.columns l) k vs)

-- line n is the first that is refused, with the number k and the values vs beside it
pub record StopsAt (s : Sheet) (ls : List (List ℕ)) (n k : ℕ) (vs : List ℕ) : Type 0 where
  -- it is one of the lines; or, of the first three, the one after the last, which is lacking
  pub line : (0 < n) × ((n ≤ length ls) ⊎ ((n ≡ length ls + 1) × (n ≤ 3)))
  -- what comes after it does not matter
  pub later : n ≤ length ls → (more : List (List ℕ)) → lines_end s (take n ls ++ more) ≡ refused_at n k vs
  -- the lines before it are accepted: they alone end with a statement, or lack the next of the first three lines
  pub earlier : (3 < n → (d : Statement) × (lines_end s (take (n - 1) ls) ≡ stated d)) × (n ≤ 3 → lines_end s (take (n - 1) ls) ≡ lacking_line n)
  -- why it is refused; a lacking line is told as NAME (14), column 1
  pub cause : (n ≤ length ls → CauseAt s (take (n - 1) ls) (slice_index_or ls (n - 1) []) k vs) × (length ls < n → (k ≡ 14) × (vs ≡ 1 ∷ []))

-- lines that end so are accepted, or stop there
abbrev pub EndsLawfully : Sheet → List (List ℕ) → Ending → Type 0
EndsLawfully s ls (stated d) = Accepted s ls d
EndsLawfully s ls (refused_at n k vs) = StopsAt s ls n k vs
