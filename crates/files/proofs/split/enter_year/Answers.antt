use Rattle.std.proofs.Common.{ℕ, sym, ap, ◌∙◌}
use Rattle.std.proofs.lemmas.Result.{err_from_is_err_and}
use Rattle.lines.specs.Text.{lines}
use Rattle.lines.specs.Values.{pair_in}
use Rattle.book.specs.Books.{sheet_of}
use Rattle.book.specs.Sheet.{begin}
use Rattle.files.specs.Endings.{names_end, begin_end}
use Rattle.files.specs.Stops.{at_line}
use Rattle.files.proofs.Ends.{read_goes_on, read_stops, call_goes_on, call_stops, no_lines, ends_as, line_read, call_told}
use Rattle.files.proofs.split.enter_year.Goals as goal

pub returns-in_default : goal.returns-in_default
unfolding begin_end
returns-in_default g c =
    ap (begin_end (sheet_of g.S.Store c.args.book.now)) (no_lines c.args.text.now c.in_default.ensures.lines) ∙ sym c.lacking.ensures

pub returns-in_err-case : goal.returns-in_err-case
unfolding begin_end
returns-in_err-case g c =
    let line = c.in-Some.line.now in
    let p = err_from_is_err_and c.from_residual.result c.from_residual.ensures.1 in
    let stops = ap (at_line 2) (sym c.read_pair.ensures) ∙ line_read 2 c.read_pair.result c.at_line.result c.at_line.ensures ∙ c.in_err-case.was in
    rw (p.1, p.2) (ap (begin_end (sheet_of g.S.Store c.args.book.now)) c.in-Some.ensures.lines.0 ∙ read_stops 2 _ (pair_in line) c.in_err-case.field-0.0 stops)

pub returns-in_err-at_line : goal.returns-in_err-at_line
unfolding begin_end
returns-in_err-at_line g c =
    let line = c.in-Some.line.now in
    let book = c.args.book.now in
    let pair : ℕ × ℕ = (c.in_ok-case.case, c.in_ok-case.year) in
    let p = err_from_is_err_and c.from_residual-in_err-at_line.result c.from_residual-in_err-at_line.ensures.1 in
    let reads = ap (at_line 2) (sym c.read_pair.ensures) ∙ line_read 2 c.read_pair.result c.at_line.result c.at_line.ensures ∙ c.in_ok-case.was in
    let stops = call_told 2 c.begin.result c.at_line-2.result c.at_line-2.ensures ∙ c.in_err-at_line.was in
    rw (p.1, p.2)
    (ap (begin_end (sheet_of g.S.Store book)) c.in-Some.ensures.lines.0 ∙ read_goes_on 2 _ (pair_in line) pair reads
    ∙ call_stops g.S.Store 2 book c.begin.new.self (begin pair.0 pair.1) (λ t. names_end t (lines c.in-Some.rest.now)) c.begin.result c.in_err-at_line.field-0.0 c.begin.ensures stops)

pub returns : goal.returns
unfolding begin_end
returns g c =
    let line = c.in-Some.line.now in
    let book = c.args.book.now in
    let pair : ℕ × ℕ = (c.in_ok-case.case, c.in_ok-case.year) in
    let reads = ap (at_line 2) (sym c.read_pair.ensures) ∙ line_read 2 c.read_pair.result c.at_line.result c.at_line.ensures ∙ c.in_ok-case.was in
    let goes = call_told 2 c.begin.result c.at_line-2.result c.at_line-2.ensures ∙ c.in_ok-at_line.was in
    ends_as g.S.Store c.enter_named.result c.enter_named.new.book
    (sym (ap (begin_end (sheet_of g.S.Store book)) c.in-Some.ensures.lines.0 ∙ read_goes_on 2 _ (pair_in line) pair reads
    ∙ call_goes_on g.S.Store 2 book c.begin.new.self (begin pair.0 pair.1) (λ t. names_end t (lines c.in-Some.rest.now)) c.begin.result tt c.begin.ensures goes))
    c.enter_named.ensures
