use Rattle.std.proofs.Common.{◌≤◌}
use Rattle.bench_stores.proofs.put_round.Given as goal

-- no more are accepted than are put
abbrev pub invariant-loop-i : goal.invariant-loop-i
invariant-loop-i g l = l.accepted ≤ l.i
