use Rattle.std.proofs.Common.{Err}
use Rattle.lines.specs.declared.misread.Misread.TheVariants.{Name}
use Rattle.lines.proofs.Headed.{columns_only}
use Rattle.lines.proofs.names.read_columns.Goals as goal

pub returns-in_err-add-clause-first : goal.returns-in_err-add-clause-first
returns-in_err-add-clause-first c k = columns_only _ (Err (Name k))

pub returns-then-not-has_all-clause-first : goal.returns-then-not-has_all-clause-first
returns-then-not-has_all-clause-first c k = columns_only _ (Err (Name k))

pub returns-clause-first : goal.returns-clause-first
returns-clause-first c k = columns_only _ (Err (Name k))
