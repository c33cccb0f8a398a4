use Rattle.std.proofs.Common.{◌≡◌, refl, ◌∙◌}
use Rattle.entries.specs.declared.readings.Mark.TheVariants.{Import, FeedIn, Drawn, Given, StorageDrawn, StorageGiven}
use Rattle.lines.specs.declared.column.Column.{Column}
use Rattle.lines.specs.declared.column.Column.TheVariants.{Quarter, Value, Reading}
use Rattle.lines.specs.contracts.column.ColumnPartialEq.TheImpl.{ghosts}
use Rattle.lines.specs.Names.{same_column}
use Rattle.lines.proofs.Among.{every}
use Rattle.lines.proofs.names.same.Goals as goal

-- two columns are told apart by their numbers
eq_is : (d c : Column) → ghosts.eq d c ≡ same_column d c
eq_is Quarter = every (λ c. ghosts.eq Quarter c ≡ same_column Quarter c) refl refl refl refl refl refl refl refl
eq_is Value = every (λ c. ghosts.eq Value c ≡ same_column Value c) refl refl refl refl refl refl refl refl
eq_is (Reading Import) = every (λ c. ghosts.eq (Reading Import) c ≡ same_column (Reading Import) c) refl refl refl refl refl refl refl refl
eq_is (Reading FeedIn) = every (λ c. ghosts.eq (Reading FeedIn) c ≡ same_column (Reading FeedIn) c) refl refl refl refl refl refl refl refl
eq_is (Reading Drawn) = every (λ c. ghosts.eq (Reading Drawn) c ≡ same_column (Reading Drawn) c) refl refl refl refl refl refl refl refl
eq_is (Reading Given) = every (λ c. ghosts.eq (Reading Given) c ≡ same_column (Reading Given) c) refl refl refl refl refl refl refl refl
eq_is (Reading StorageDrawn) = every (λ c. ghosts.eq (Reading StorageDrawn) c ≡ same_column (Reading StorageDrawn) c) refl refl refl refl refl refl refl refl
eq_is (Reading StorageGiven) = every (λ c. ghosts.eq (Reading StorageGiven) c ≡ same_column (Reading StorageGiven) c) refl refl refl refl refl refl refl refl

pub returns : goal.returns
returns c = c.eq.ensures ∙ eq_is c.args.column c.args.other
