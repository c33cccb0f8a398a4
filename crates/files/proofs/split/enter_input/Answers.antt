use Rattle.std.proofs.Common.{sym, ap, ◌∙◌}
use Rattle.std.proofs.lemmas.Result.{err_from_is_err_and}
use Rattle.lines.specs.Text.{heading_in}
use Rattle.book.specs.Books.{sheet_of}
use Rattle.files.specs.Endings.{lines_end}
use Rattle.files.specs.Stops.{at_line}
use Rattle.files.proofs.Ends.{read_goes_on, read_stops, no_lines, ends_as, line_read}
use Rattle.files.proofs.split.enter_input.Goals as goal

pub returns-in_default : goal.returns-in_default
unfolding lines_end
returns-in_default g c =
    ap (lines_end (sheet_of g.S.Store c.args.book.now)) (no_lines c.args.input.now c.in_default.ensures.lines) ∙ sym c.lacking.ensures

pub returns-in_err-at_line : goal.returns-in_err-at_line
unfolding lines_end
returns-in_err-at_line g c =
    let line = c.in-Some.line.now in
    let p = err_from_is_err_and c.from_residual.result c.from_residual.ensures.1 in
    let stops = ap (at_line 1) (sym c.read_heading.ensures) ∙ line_read 1 c.read_heading.result c.at_line.result c.at_line.ensures ∙ c.in_err-at_line.was in
    rw (p.1, p.2) (ap (lines_end (sheet_of g.S.Store c.args.book.now)) c.in-Some.ensures.lines.0 ∙ read_stops 1 _ (heading_in line) c.in_err-at_line.field-0.0 stops)

pub returns : goal.returns
unfolding lines_end
returns g c =
    let line = c.in-Some.line.now in
    let reads = ap (at_line 1) (sym c.read_heading.ensures) ∙ line_read 1 c.read_heading.result c.at_line.result c.at_line.ensures ∙ c.in_ok-at_line.was in
    ends_as g.S.Store c.enter_year.result c.enter_year.new.book
    (sym (ap (lines_end (sheet_of g.S.Store c.args.book.now)) c.in-Some.ensures.lines.0 ∙ read_goes_on 1 _ (heading_in line) _ reads)) c.enter_year.ensures
