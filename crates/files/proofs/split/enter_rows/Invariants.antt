use Rattle.std.proofs.Common.{◌≡◌, ◌+◌, ◌≤◌, length}
use Rattle.std.specs.Iterator.Adapters.{enumerate_source, enumerate_count}
use Rattle.lines.specs.Columns.{names}
use Rattle.lines.specs.Text.{lines}
use Rattle.lines.specs.Unread.{lines_left}
use Rattle.book.specs.Books.{sheet_of}
use Rattle.files.specs.Endings.{rows_end}
use Rattle.files.proofs.split.enter_rows.Given as goal

abbrev pub invariant-loop-i : goal.invariant-loop-i
invariant-loop-i g l =
    let left = lines_left (enumerate_source l.i-iterator) in
    (enumerate_count l.i-iterator + length left ≤ length l.text)
    × (rows_end (names l.columns) (sheet_of g.S.Store l.book) (3 + enumerate_count l.i-iterator) left
    ≡ rows_end (names l.columns) (sheet_of g.S.Store l.initial.book) 3 (lines l.text))
