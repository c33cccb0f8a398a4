use Rattle.std.proofs.Common.{ℕ, arith, rules}
use Rattle.series.specs.Totals.{energies}
use Rattle.series.proofs.Spans.{whole_more, sum_more}
use Rattle.series.proofs.total.energy_over.Goals as goal

pub loop-quarter-preserved : goal.loop-quarter-preserved
loop-quarter-preserved g c =
    let before = c.loop-quarter.invariant in
    let step = c.in-Some.ensures.steps in
    let up = step.1.2 in
    let faults = g.M.Series.faults c.args.meter.now in
    let energy = λ (k : ℕ). energies (g.M.Meter.readings c.args.meter.now k) in record {
      can = tt;
      ends = tt;
      span = grind arith;
      whole = whole_more faults _ _ _ up before.whole (search rules);
      taken = (sum_more (λ k. (energy k).0) _ _ _ _ _ up before.span.1 before.taken.0 (search rules), grind arith);
      given = (sum_more (λ k. (energy k).1) _ _ _ _ _ up before.span.1 before.given.0 (search rules), grind arith);
    }
