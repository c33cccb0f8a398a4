use Rattle.std.proofs.Common.{rules}
use Rattle.lines.proofs.Cuts.{cut_at, cut_whole}
use Rattle.lines.proofs.text.split.Goals as goal

pub returns-in-Some-clause-cuts : goal.returns-in-Some-clause-cuts
returns-in-Some-clause-cuts c = cut_at _ _ _ (search rules) (search rules) (search rules)

pub returns-in-None-clause-cuts : goal.returns-in-None-clause-cuts
returns-in-None-clause-cuts c = cut_whole _ _ (search rules)
