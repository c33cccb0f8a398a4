-- The stops of an input.
use Rattle.std.specs.Prelude.{◌≡◌, ℕ, ◌+◌, List, [], ◌∷◌, Ok, Err, Result}
use Rattle.lines.specs.declared.misread.Misread as misreads
use Rattle.lines.specs.Misreads.{misread_number, misread_column}
use Rattle.lines.specs.declared.column.Column.{Column}
use Rattle.stores.specs.declared.store.Store.{Ghosts}
use Rattle.book.specs.declared.book.Book.{Book}
use Rattle.book.specs.declared.refusal.Refusal.{Refusal}
use Rattle.book.specs.Books.{sheet_of}
use Rattle.book.specs.Sheet.{Sheet, statement}
use Rattle.book.specs.Refusals.{refusal_number, refusal_values}
use Rattle.files.specs.declared.stop.Cause.{Cause}
use Rattle.files.specs.declared.stop.Cause.TheVariants.{Misread, Refused}
use Rattle.files.specs.declared.stop.Stop.{Stop}
use Rattle.statements.specs.declared.refusal_note.RefusalNote.{RefusalNote}
use Rattle.files.specs.Endings.{Ending, stated, refused_at, rows_end, place_beside}

-- the number of a refusal, and what is told beside it
abbrev pub stopped_number : Cause → ℕ
stopped_number (Misread e) = misread_number e
stopped_number (Refused r) = refusal_number r

abbrev pub stopped_values : Cause → List ℕ
stopped_values (Misread e) = misread_column e ∷ []
stopped_values (Refused r) = refusal_values r

-- line n stops for this cause
abbrev pub stop_at : ℕ → Cause → Stop
stop_at n cause = record { line = n; cause = cause }

-- line n stops, since it cannot be read, or since the book refuses its call
abbrev pub misread_stop : ℕ → misreads.Misread → Stop
misread_stop n e = stop_at n (Misread e)

abbrev pub refused_stop : ℕ → Refusal → Stop
refused_stop n r = stop_at n (Refused r)

-- what was read of line n, or the stop at it
abbrev pub at_line : {A : Type 0} → ℕ → Result A misreads.Misread → Result A Stop
at_line n (Ok x) = Ok x
at_line n (Err e) = Err (misread_stop n e)

-- how an input ends with a stop
abbrev pub stop_end : Stop → Ending
stop_end s = refused_at s.line (stopped_number s.cause) (stopped_values s.cause)

-- the answer to the call that line n spells, or the stop at it
abbrev pub told_at : ℕ → Result (Unit {0}) Refusal → Result (Unit {0}) Stop
told_at n (Ok x) = Ok x
told_at n (Err r) = Err (refused_stop n r)

-- what is told of a stop: the refusal's number, the line, and its place
abbrev pub note_of : Stop → RefusalNote
note_of s = record { number = stopped_number s.cause; line = s.line; place = place_beside (stopped_values s.cause) }

-- lines that end so leave a book that stands for the statement, or stop
abbrev pub Ends : {S : Type 0} → Ghosts S → Ending → Result (Unit {0}) Stop → Book S → Type 0
Ends m end (Ok x) b = end ≡ stated (statement (sheet_of m b))
Ends m end (Err stop) b = end ≡ stop_end stop

-- a line of values after n lines, on the sheet s: it stops the input, or the lines after it end as they do on the book's sheet
abbrev pub Enters : {S : Type 0} → Ghosts S → List Column → Sheet → ℕ → List ℕ → Result (Unit {0}) Stop → Book S → Type 0
Enters m ns s n row (Ok x) b = (ls : List (List ℕ)) → rows_end ns s n (row ∷ ls) ≡ rows_end ns (sheet_of m b) (n + 1) ls
Enters m ns s n row (Err stop) b = (ls : List (List ℕ)) → rows_end ns s n (row ∷ ls) ≡ stop_end stop
