use Rattle.std.proofs.Common.{sym, ap, ◌∙◌}
use Rattle.std.proofs.lemmas.Result.{err_from_is_err_and}
use Rattle.lines.specs.Names.{columns_in}
use Rattle.book.specs.Books.{sheet_of}
use Rattle.files.specs.Endings.{names_end}
use Rattle.files.proofs.Ends.{read_goes_on, read_stops, no_lines, ends_as, columns_read, columns_misread, line_read}
use Rattle.files.proofs.split.enter_named.Goals as goal

pub returns-in_default : goal.returns-in_default
unfolding names_end
returns-in_default g c =
    ap (names_end (sheet_of g.S.Store c.args.book.now)) (no_lines c.args.text.now c.in_default.ensures.lines) ∙ sym c.lacking.ensures

pub returns-in_err-columns : goal.returns-in_err-columns
unfolding names_end
returns-in_err-columns g c =
    let line = c.in-Some.line.now in
    let p = err_from_is_err_and c.from_residual.result c.from_residual.ensures.1 in
    let stop = c.in_err-columns.field-0.0 in
    let stops = columns_misread line c.read_columns.result stop c.read_columns.ensures.exact (line_read 3 c.read_columns.result c.at_line.result c.at_line.ensures ∙ c.in_err-columns.was) in
    rw (p.1, p.2) (ap (names_end (sheet_of g.S.Store c.args.book.now)) c.in-Some.ensures.lines.0 ∙ read_stops 3 _ (columns_in line) stop stops)

pub returns : goal.returns
unfolding names_end
returns g c =
    let line = c.in-Some.line.now in
    let reads = columns_read line c.read_columns.result c.in_ok-columns.columns c.read_columns.ensures.exact (line_read 3 c.read_columns.result c.at_line.result c.at_line.ensures ∙ c.in_ok-columns.was) in
    ends_as g.S.Store c.enter_rows.result c.enter_rows.new.book
    (sym (ap (names_end (sheet_of g.S.Store c.args.book.now)) c.in-Some.ensures.lines.0 ∙ read_goes_on 3 _ (columns_in line) _ reads)) c.enter_rows.ensures
