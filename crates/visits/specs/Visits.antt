-- The calls that visits make, and what their answers say.
use Rattle.std.specs.Prelude.{Some, None, Ok, Err, Option, Result}
use Rattle.series.specs.declared.series.Meter as meters
use Rattle.series.specs.declared.series.ValueList as lists
use Rattle.visits.specs.declared.visits.Visit.{Visit}
use Rattle.visits.specs.declared.visits.Visit.TheVariants.{Begin, Post, Amend, Fetch, Draw}
use Rattle.statements.specs.declared.draft.Draft.{Draft}
use Rattle.book.specs.declared.refusal.Refusal.{Refusal}
use Rattle.book.specs.Refusals.{refusal_number, refusal_values}
use Rattle.book.specs.Sheet.{Call, begin, post, amend, draw, Outcome, accepted, refused, drafted}
use Rattle.book.specs.Sources.{fetch_from}

-- the call that a visit makes
abbrev pub call_of : {V X Y Z : Type 0} → lists.Ghosts V → meters.Ghosts X → meters.Ghosts Y → meters.Ghosts Z → Visit V X Y Z → Call
call_of l a b d (Begin k y) = begin k y
call_of l a b d (Post q e) = post q e
call_of l a b d (Amend q e) = amend q e
call_of l a b d (Fetch q s) = fetch_from l a b d s q
call_of l a b d Draw = draw

-- what an answer says
abbrev pub outcome_in : Result (Option Draft) Refusal → Outcome
outcome_in (Ok None) = accepted
outcome_in (Ok (Some d)) = drafted d.statement
outcome_in (Err r) = refused (refusal_number r) (refusal_values r)
