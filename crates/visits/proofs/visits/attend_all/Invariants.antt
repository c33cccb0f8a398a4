use Rattle.std.proofs.Common.{◌+◌, ◌-◌, ◌≤◌, map, length, take, vec_items, vec_len, vec_capacity}
use Rattle.book.specs.Runs.{Chain}
use Rattle.visits.specs.Visits.{call_of, outcome_in}
use Rattle.visits.proofs.visits.attend_all.Given as goal

abbrev pub invariant-loop-visit : goal.invariant-loop-visit
invariant-loop-visit g l =
    (l.visit-index ≤ length l.visits)
    × (vec_len l.answers + (length l.visits - l.visit-index) ≤ vec_capacity l.answers)
    × Chain g.S.Store l.initial.book (map (call_of g.V.ValueList g.A.Meter g.B.Meter g.C.Meter) (take l.visit-index l.visits))
    (map outcome_in (vec_items l.answers)) l.book
