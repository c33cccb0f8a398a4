-- How an input goes on from a line, and where it stops.
use Rattle.std.proofs.Common.{◌≡◌, ℕ, ◌+◌, List, [], Ok, Err, Result, sym, ap, ◌∙◌, subst, arith, MatchResult}
use Rattle.entries.specs.declared.entry.Entry.{Entry}
use Rattle.lines.specs.declared.column.Column.{Column}
use Rattle.lines.specs.declared.columns.Columns.{Columns}
use Rattle.lines.specs.Columns.{names}
use Rattle.lines.specs.Names.{columns_in}
use Rattle.lines.specs.Text.{lines}
use Rattle.lines.specs.Entries.{spelt}
use Rattle.lines.specs.declared.misread.Misread.{Misread}
use Rattle.stores.specs.declared.store.Store.{Ghosts}
use Rattle.book.specs.declared.book.Book.{Book}
use Rattle.book.specs.declared.refusal.Refusal.{Refusal}
use Rattle.book.specs.Books.{sheet_of, Attends, outcome_of}
use Rattle.book.specs.Sheet.{Sheet, Call, post, after}
use Rattle.files.specs.declared.stop.Cause.{Cause}
use Rattle.files.specs.declared.stop.Cause.TheVariants.{Misread as Unread, Refused}
use Rattle.files.specs.declared.stop.Stop.{Stop}
use Rattle.files.specs.Endings.{Ending, read_then, answered_then, call_then, rows_end}
use Rattle.files.specs.Stops.{stop_at, misread_stop, refused_stop, stop_end, at_line, told_at, Ends, Enters}

module _ {A : Type 0} (n : ℕ) (next : A → Ending) where
  -- a line that is read goes on with what was read
  pub read_goes_on : (r : Result A Misread) (x : A) → at_line n r ≡ Ok x → read_then n r next ≡ next x
  read_goes_on (Ok y) x h = let same : y ≡ x = cc in ap next same
  read_goes_on (Err e) x h = let z : ◌≡◌ {A = ℕ} 0 1 = cc in absurd (omega arith)

  -- one that is not stops the input
  pub read_stops : (r : Result A Misread) (stop : Stop) → at_line n r ≡ Err stop → read_then n r next ≡ stop_end stop
  read_stops (Ok y) stop h = let z : ◌≡◌ {A = ℕ} 0 1 = cc in absurd (omega arith)
  read_stops (Err e) stop h = let same : misread_stop n e ≡ stop = cc in ap stop_end same

module _ {S : Type 0} (m : Ghosts S) (n : ℕ) (b b' : Book S) (c : Call) (next : Sheet → Ending) where
  -- an accepted call goes on from the sheet of the book after it
  pub call_goes_on : (r : Result (Unit {0}) Refusal) (x : Unit {0}) → Attends m b c (outcome_of r) b' → told_at n r ≡ Ok x → call_then n (sheet_of m b) c next ≡ next (sheet_of m b')
  call_goes_on (Ok y) x a h =
      let t = a.told in
      ap (λ o. answered_then n o (next (after (sheet_of m b) c))) (sym t.answer) ∙ ap next (sym t.sheet)
  call_goes_on (Err e) x a h = let z : ◌≡◌ {A = ℕ} 0 1 = cc in absurd (omega arith)

  -- a refused one stops the input
  pub call_stops : (r : Result (Unit {0}) Refusal) (stop : Stop) → Attends m b c (outcome_of r) b' → told_at n r ≡ Err stop → call_then n (sheet_of m b) c next ≡ stop_end stop
  call_stops (Ok y) stop a h = let z : ◌≡◌ {A = ℕ} 0 1 = cc in absurd (omega arith)
  call_stops (Err e) stop a h =
      let same : refused_stop n e ≡ stop = cc in
      ap (λ o. answered_then n o (next (after (sheet_of m b) c))) (sym a.told.answer) ∙ ap stop_end same

-- a line of values that spells the entry e of the quarter q, once its post is answered
pub row_entered : {S : Type 0} (m : Ghosts S) (ns : List Column) (n : ℕ) (b b' : Book S) (l : List ℕ) (row : ℕ × Entry) (r : Result (Unit {0}) Refusal) → at_line (n + 1) (spelt ns l) ≡ Ok row → Attends m b (post row.0 row.1) (outcome_of r) b' → (a : Result (Unit {0}) Stop) → told_at (n + 1) r ≡ a → Enters m ns (sheet_of m b) n l a b'
unfolding rows_end
row_entered m ns n b b' l row r read attends (Ok x) told =
    λ ls. read_goes_on (n + 1) _ (spelt ns l) row read ∙ call_goes_on m (n + 1) b b' (post row.0 row.1) (λ t. rows_end ns t (n + 1) ls) r x attends told
row_entered m ns n b b' l row r read attends (Err stop) told =
    λ ls. read_goes_on (n + 1) _ (spelt ns l) row read ∙ call_stops m (n + 1) b b' (post row.0 row.1) (λ t. rows_end ns t (n + 1) ls) r stop attends told

-- an empty text has no line
pub no_lines : (text : List ℕ) → text ≡ [] → lines text ≡ []
unfolding lines
no_lines text h = ap lines h

-- the same ending by another name
pub ends_as : {S : Type 0} (m : Ghosts S) (r : Result (Unit {0}) Stop) (b : Book S) {e e' : Ending} → e ≡ e' → Ends m e r b → Ends m e' r b
ends_as m r b h h' = subst (λ e. Ends m e r b) h h'

-- how the names of the columns are read
pub columns_read : (line : List ℕ) (r : Result Columns Misread) (cs : Columns) → MatchResult r (λ cs. columns_in line ≡ Ok (names cs)) (λ e. columns_in line ≡ Err e) → at_line 3 r ≡ Ok cs → at_line 3 (columns_in line) ≡ Ok (names cs)
columns_read line (Ok ds) cs h k = let same : ds ≡ cs = cc in ap (at_line 3) h ∙ ap (λ d. Ok (names d)) same
columns_read line (Err e) cs h k = let z : ◌≡◌ {A = ℕ} 0 1 = cc in absurd (omega arith)

pub columns_misread : (line : List ℕ) (r : Result Columns Misread) (stop : Stop) → MatchResult r (λ cs. columns_in line ≡ Ok (names cs)) (λ e. columns_in line ≡ Err e) → at_line 3 r ≡ Err stop → at_line 3 (columns_in line) ≡ Err stop
columns_misread line (Ok ds) stop h k = let z : ◌≡◌ {A = ℕ} 0 1 = cc in absurd (omega arith)
columns_misread line (Err e) stop h k = let same : misread_stop 3 e ≡ stop = cc in ap (at_line 3) h ∙ ap (λ d. Err d) same

-- what is made of an answer about line n, as one term: of a line that was read, and of a call
pub line_read : {A : Type 0} (n : ℕ) (r : Result A Misread) (a : Result A Stop) → MatchResult r (λ x. a ≡ Ok x) (λ e. (cause : Cause) × (cause ≡ Unread e) × (a ≡ Err (stop_at n cause))) → at_line n r ≡ a
line_read n (Ok x) a h = sym h
line_read n (Err e) a h = ap (λ cause. Err (stop_at n cause)) (sym h.1) ∙ sym h.2

pub call_told : (n : ℕ) (r : Result (Unit {0}) Refusal) (a : Result (Unit {0}) Stop) → MatchResult r (λ x. a ≡ Ok x) (λ e. (cause : Cause) × (cause ≡ Refused e) × (a ≡ Err (stop_at n cause))) → told_at n r ≡ a
call_told n (Ok x) a h = sym h
call_told n (Err e) a h = ap (λ cause. Err (stop_at n cause)) (sym h.1) ∙ sym h.2
