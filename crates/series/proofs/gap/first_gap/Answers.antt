use Rattle.std.proofs.Common.{◌≡◌, ◌≤◌, ◌∙◌, rules, subst}
use Rattle.series.specs.Gaps.{LowestFault}
use Rattle.series.proofs.Spans.{lowest_found}
use Rattle.series.proofs.gap.first_gap.Goals as goal

pub returns : goal.returns
returns g c =
    let faults = g.S.Series.faults c.args.series.now in
    let run = c.find_map.ensures.runs in
    let same : c.in_ok-accepted.field-0 ≡ c.args.span = search rules in
    let within : c.args.span.end ≤ 35136 = search rules in
    let lowest = lowest_found faults run.0 c.find_map.result (g.met.S.Series.asked c.args.series.now) (λ q r f' k. search rules) run.2 in
    (within, subst (λ s. LowestFault faults s.start s.end c.find_map.result) (run.1 ∙ same) lowest)
