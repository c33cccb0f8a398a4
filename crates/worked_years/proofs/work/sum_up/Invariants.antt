use Rattle.std.proofs.Common.{◌≡◌, take}
use Rattle.worked_years.specs.Postings.{list_totals}
use Rattle.worked_years.proofs.work.sum_up.Given as goal

abbrev pub invariant-loop-posting : goal.invariant-loop-posting
invariant-loop-posting l = l.sums.totals ≡ list_totals (take l.posting-index l.postings)
