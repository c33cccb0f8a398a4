use Rattle.std.proofs.Common.{◌≡◌, None, sym, ap, ◌∙◌}
use Rattle.lines.specs.Text.{lines}
use Rattle.statements.specs.Printed.{text}
use Rattle.book.specs.Books.{sheet_of}
use Rattle.book.specs.Sheet.{Sheet, blank, drafted, outcome, statement}
use Rattle.files.specs.Endings.{ending, output_text, is_refused}
use Rattle.files.proofs.Laws.{ends_lawfully, stated_where_accepted}
use Rattle.files.proofs.split.split_text.Goals as goal

pub returns-in-Ok : goal.returns-in-Ok
unfolding outcome
returns-in-Ok g c =
    let s : Sheet = blank (g.S.Store.reach c.args.store) (g.S.Store.capacity c.args.store) in
    let input = c.args.input.now in
    let drawn : drafted c.draw.result.statement ≡ drafted (statement (sheet_of g.S.Store c.enter_input.new.book)) = c.draw.ensures.answer.told.answer in
    let same : c.draw.result.statement ≡ statement (sheet_of g.S.Store c.enter_input.new.book) = cc in
    let ends = ap (λ t. ending t input) (sym c.new-book.ensures.sheet) ∙ c.in-Ok.ensures in
    record {
      text = c.text.ensures ∙ ap (λ d. text d None) same ∙ sym (ap output_text ends);
      kind = sym (ap is_refused ends);
      lawful = ends_lawfully s (lines input);
      only = λ d. (stated_where_accepted s (lines input) d).1;
    }

pub returns-clause-lawful : goal.returns-clause-lawful
returns-clause-lawful g c = ends_lawfully (blank (g.S.Store.reach c.args.store) (g.S.Store.capacity c.args.store)) (lines c.args.input.now)

pub returns-clause-only : goal.returns-clause-only
returns-clause-only g c =
    λ d. (stated_where_accepted (blank (g.S.Store.reach c.args.store) (g.S.Store.capacity c.args.store)) (lines c.args.input.now) d).1
