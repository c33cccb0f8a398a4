use Rattle.std.proofs.Common.{◌≡◌, ℕ, ◌<◌, Some, None, Option, sym, ◌∙◌, MatchOption, rules}
use Rattle.entries.specs.declared.entry.Entry.{Entry}
use Rattle.entries.specs.Pairs.{Pairs, most_quarters, without}
use Rattle.sums.specs.declared.sums.Sums.{Sums}
use Rattle.sums.specs.declared.totals.Totals.{Totals}
use Rattle.sums.specs.Year.{totals}
use Rattle.sums.specs.Sums.{Before, NeverAdded}
use Rattle.sums.proofs.Years.{before_in_year, totals_removed, totals_balanced}
use Rattle.sums.proofs.sums.Sums.minus.Goals as goal

abbrev Removed : Totals → Entry → Option Sums → Type 0
Removed t e r = MatchOption r (NeverAdded e t) (λ s. Before e t s.totals)

year_by : (t : Totals) (e : Entry) (r : Option Sums) → Removed t e r
    → (p : Pairs) (q : ℕ) → t ≡ totals p → q < most_quarters → p q ≡ Some e → MatchOption r ⊥ (λ s. s.totals ≡ totals (without p q))
year_by t e None never p q was below stood =
    never (totals (without p q)) (totals_balanced (without p q), totals_removed p q e below stood ∙ sym was)
year_by t e (Some s) before p q was below stood = before_in_year s.totals p q e below stood (before.1 ∙ was)

pub returns-clause-year : goal.returns-clause-year
returns-clause-year c =
    let removed : Removed c.args.self.totals c.args.e c.without.result = search rules in
    year_by c.args.self.totals c.args.e c.without.result removed
