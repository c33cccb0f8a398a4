use Rattle.std.proofs.Common.{◌≡◌, ◌-◌, ◌*◌, ◌≤◌, max}
use Rattle.series.specs.Gaps.{Whole}
use Rattle.series.specs.Totals.{energies, sum_from}
use Rattle.series.proofs.total.energy_over.Given as goal

abbrev pub invariant-loop-quarter : goal.invariant-loop-quarter
invariant-loop-quarter g l =
    let iterator = l.quarter-iterator in
    let from = l.fn.span.start in
    let n = iterator.start - from in
    let readings = g.M.Meter.readings l.meter in record {
      can : (goal.iterator-loop-quarter g).can_next iterator;
      ends : (goal.iterator-loop-quarter g).is_finite iterator;
      span : (iterator.end ≡ l.fn.span.end) × (from ≤ iterator.start) × (iterator.start ≤ max from iterator.end);
      whole : Whole (g.M.Series.faults l.meter) from iterator.start;
      taken : (l.taken ≡ sum_from from n (λ q. (energies (readings q)).0)) × (l.taken ≤ 1000000 * n);
      given : (l.given ≡ sum_from from n (λ q. (energies (readings q)).1)) × (l.given ≤ 1000000 * n);
    }
