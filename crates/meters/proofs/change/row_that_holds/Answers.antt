use Rattle.std.proofs.Common.{◌∙◌, ◌<◌, ◌≤◌, rules, tests}
use Rattle.std.proofs.lemmas.Iterator.{first_from_find}
use Rattle.std.proofs.lemmas.Iterator.Adapters.{YieldsList-from_rev_slice}
use Rattle.meters.specs.declared.change.Change.{Change}
use Rattle.meters.proofs.Held.{first_is_last, one_last, held_is_last}
use Rattle.meters.proofs.change.row_that_holds.Goals as goal

pub returns-clause-row : goal.returns-clause-row
returns-clause-row c =
    let rows = c.args.rows.now in
    let q = c.args.quarter in
    let found = first_from_find _ _ c.find.result (λ (x : Change). x.quarter ≤ q) (λ (x : Change). q < x.quarter) c.find.ensures.ran (YieldsList-from_rev_slice rows cc) (λ x f k. search (rules, tests)) (λ x f k. search (rules, tests)) in
    c.copied.ensures ∙ one_last rows q _ _ (first_is_last rows q c.find.result found) (held_is_last rows q)
