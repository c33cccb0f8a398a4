use Rattle.std.proofs.Common.{◌+◌, sym, ap, ◌∙◌}
use Rattle.std.proofs.lemmas.Result.{err_from_is_err_and}
use Rattle.lines.specs.Columns.{names}
use Rattle.lines.specs.Entries.{spelt}
use Rattle.files.specs.Endings.{rows_end}
use Rattle.files.specs.Stops.{at_line}
use Rattle.files.proofs.Ends.{read_stops, row_entered, line_read, call_told}
use Rattle.files.proofs.split.enter_row.Goals as goal

pub returns-in_err-quarter : goal.returns-in_err-quarter
unfolding rows_end
returns-in_err-quarter g c =
    let n = c.args.before + 1 in
    let p = err_from_is_err_and c.from_residual.result c.from_residual.ensures.1 in
    let stops = ap (at_line n) (sym c.read_entry.ensures.exact) ∙ line_read n c.read_entry.result c.at_line.result c.at_line.ensures ∙ c.in_err-quarter.was in
    rw (p.1, p.2) (λ ls. read_stops n _ (spelt (names c.args.columns.now) c.args.row.now) c.in_err-quarter.field-0.0 stops)

pub returns : goal.returns
returns g c =
    let n = c.args.before + 1 in
    let reads = ap (at_line n) (sym c.read_entry.ensures.exact) ∙ line_read n c.read_entry.result c.at_line.result c.at_line.ensures ∙ c.in_ok-quarter.was in
    row_entered g.S.Store (names c.args.columns.now) c.args.before c.args.book.now c.post.new.self c.args.row.now (c.in_ok-quarter.quarter, c.in_ok-quarter.entry) c.post.result reads c.post.ensures c.at_line-2.result (call_told n c.post.result c.at_line-2.result c.at_line-2.ensures)
