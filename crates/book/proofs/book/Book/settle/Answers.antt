use Rattle.std.proofs.Common.{◌≡◌, None, rules, sym, ap, subst}
use Rattle.std.proofs.lemmas.Result.{err_from_is_err_and}
use Rattle.entries.specs.Pairs.{updated}
use Rattle.sums.specs.Year.{totals}
use Rattle.book.specs.declared.book.Book.{Book}
use Rattle.book.specs.Books.{sheet_of, Kept}
use Rattle.book.specs.Sheet.{first_failing, admitted}
use Rattle.book.proofs.Keeping.{settled_in_order, put_told}
use Rattle.book.proofs.book.Book.settle.Goals as goal

pub returns-in_err-put : goal.returns-in_err-put
returns-in_err-put g c =
    let m = g.S.Store in
    let s = c.self.inside in
    let p = err_from_is_err_and c.from_residual.result c.from_residual.ensures.1 in
    let book : Book g.row.S.Denot = record { store = s.store; sums = s.sums; case = s.case; year = s.year } in
    let fits = subst (λ b. first_failing (admitted (sheet_of m b) c.args.quarter c.args.entry) ≡ None) (sym c.self.view_is) c.requires.admitted in
    rw (p.1, p.2, ← c.self.view_is)
    (record {
      answer = sym (put_told m book c.self.invariant c.args.quarter c.args.entry _ c.in_err-put.ensures.answer fits (g.met.S.Store.fitting _));
      after = ap (λ x. record book { store = x }) c.in_err-put.ensures.after;
      kept = subst (λ x. Kept m (record book { store = x })) (sym c.in_err-put.ensures.after) c.self.invariant;
    })

pub invariant_of-self-2 : goal.invariant_of-self-2
invariant_of-self-2 g c =
    let m = g.S.Store in
    let s = c.self.inside in
    let book : Book g.row.S.Denot = record { store = s.store; sums = s.sums; case = s.case; year = s.year } in
    let fits = subst (λ b. first_failing (admitted (sheet_of m b) c.args.quarter c.args.entry) ≡ None) (sym c.self.view_is) c.requires.admitted in
    let sums = subst (λ b. c.args.sums.totals ≡ totals (updated (m.pairs b.store) c.args.quarter c.args.entry)) (sym c.self.view_is) c.requires.sums in
    settled_in_order m book c.self.invariant _ _ _ _ c.in_ok-put.ensures.after sums c.put.ensures.reach fits

pub returns : goal.returns
returns g c =
    rw (← c.self.view_is)
    (record {
      answer = search rules;
      after = search rules;
      kept = invariant_of-self-2 g c;
    })
