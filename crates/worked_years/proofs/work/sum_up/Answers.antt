use Rattle.std.proofs.Common.{◌≡◌, ℕ, ◌+◌, List, ◌∷◌, ◌++◌, get_or, take, drop, Some, sym, ap, ◌∙◌}
use Rattle.std.proofs.lemmas.List.{take_all, take-append-drop}
use Rattle.std.proofs.lemmas.Result.{err_from_is_err_and}
use Rattle.sums.specs.declared.totals.Totals.{Totals}
use Rattle.sums.specs.Sums.{past}
use Rattle.worked_years.specs.declared.years.Posting.{Posting}
use Rattle.worked_years.specs.Postings.{list_totals}
use Rattle.worked_years.proofs.Lists.{blank, drop_at, year_of_list}
use Rattle.worked_years.proofs.work.sum_up.Goals as goal

pub returns-in_err-sums-clause-summed : goal.returns-in_err-sums-clause-summed
returns-in_err-sums-clause-summed c =
    let xs : List Posting = c.args.postings.now in
    let i : ℕ = c.loop-posting.posting-index in
    let p = err_from_is_err_and c.from_residual.result c.from_residual.ensures.1 in
    let split : xs ≡ take i xs ++ (get_or xs i blank ∷ drop (i + 1) xs) =
    sym (take-append-drop i xs) ∙ ap (λ (ys : List Posting). take i xs ++ ys) (drop_at xs i c.loop-posting-test.true) in
    let passed : past (list_totals (take i xs)) (get_or xs i blank).entry ≡ Some c.in_err-sums.field-0.0 =
    ap (λ (t : Totals). past t (get_or xs i blank).entry) (sym c.loop-posting.invariant) ∙ c.in_err-sums.ensures.added in
    rw (p.1, p.2) (take i xs, get_or xs i blank, drop (i + 1) xs, split, passed)

pub returns-clause-year : goal.returns-clause-year
returns-clause-year c =
    let xs : List Posting = c.args.postings.now in
    let all : take c.loop-posting.posting-index xs ≡ xs = take_all c.loop-posting.posting-index xs c.loop-posting-test.false in
    λ apart. c.loop-posting.invariant ∙ ap list_totals all ∙ sym (year_of_list xs apart)
