use Rattle.std.proofs.Common.{◌≡◌, Some, None, sym, ap, subst, ◌∙◌, arith}
use Rattle.std.proofs.lemmas.Option.{MatchOption-at_some, MatchOption-at_none}
use Rattle.std.proofs.lemmas.Result.{err_from_is_err_and}
use Rattle.entries.specs.declared.entry.Entry.{Entry}
use Rattle.entries.specs.Pairs.{without}
use Rattle.sums.specs.declared.totals.Totals.{Totals}
use Rattle.sums.specs.Year.{totals}
use Rattle.sums.specs.Sums.{one, past, Added, Before, NeverAdded}
use Rattle.sums.proofs.Cancel.{cancel}
use Rattle.sums.proofs.Years.{totals_replaced, before_in_year}
use Rattle.sums.proofs.sums.Sums.replace.Goals as goal

pub returns-in_err-rest-clause-held : goal.returns-in_err-rest-clause-held
returns-in_err-rest-clause-held c =
    let none : c.minus.result ≡ None = grind arith in
    λ u b. absurd (MatchOption-at_none (NeverAdded c.args.old c.args.self.totals) (λ s. Before c.args.old c.args.self.totals s.totals) none
    c.minus.ensures.removed u b)

pub returns-in_err-rest-clause-year : goal.returns-in_err-rest-clause-year
returns-in_err-rest-clause-year c =
    let none : c.minus.result ≡ None = grind arith in
    λ p q was below stood. absurd (MatchOption-at_none ⊥ (λ s. s.totals ≡ totals (without p q)) none (c.minus.ensures.year p q was below stood))

pub returns-in_err-plus : goal.returns-in_err-plus
returns-in_err-plus c =
    let old : Entry = c.args.old in
    let new : Entry = c.args.new in
    let t : Totals = c.args.self.totals in
    let rest : Totals = c.in_ok-rest.rest.totals in
    let e = err_from_is_err_and c.from_residual-in_err-plus.result c.from_residual-in_err-plus.ensures.1 in
    let some : c.minus.result ≡ Some c.in_ok-rest.rest = grind arith in
    let before : Before old t rest =
    MatchOption-at_some (NeverAdded old t) (λ s. Before old t s.totals) c.in_ok-rest.rest some c.minus.ensures.removed in
    rw (e.1, e.2) (record {
      held = λ u b. ap (λ (v : Totals). past v new) (cancel u rest (one old) (b.1 ∙ sym before.1)) ∙ c.in_err-plus.ensures.added;
      absent = λ never. absurd (never rest before);
      year = λ p q was below stood.
          ap (λ (v : Totals). past v new) (sym (before_in_year rest p q old below stood (before.1 ∙ was))) ∙ c.in_err-plus.ensures.added;
    })

pub returns : goal.returns
returns c =
    let old : Entry = c.args.old in
    let new : Entry = c.args.new in
    let t : Totals = c.args.self.totals in
    let rest : Totals = c.in_ok-rest.rest.totals in
    let s : Totals = c.in_ok-plus.field-0.totals in
    let some : c.minus.result ≡ Some c.in_ok-rest.rest = grind arith in
    let before : Before old t rest =
    MatchOption-at_some (NeverAdded old t) (λ s. Before old t s.totals) c.in_ok-rest.rest some c.minus.ensures.removed in
    record {
      held = λ u b. subst (λ (v : Totals). Added v new s) (cancel rest u (one old) (before.1 ∙ sym b.1)) c.in_ok-plus.ensures.added;
      absent = λ never. absurd (never rest before);
      year = λ p q was below stood.
          let added : Added (totals (without p q)) new s =
          subst (λ (v : Totals). Added v new s) (before_in_year rest p q old below stood (before.1 ∙ was)) c.in_ok-plus.ensures.added in
          (added.0, added.1 ∙ sym (totals_replaced p q new below));
    }
