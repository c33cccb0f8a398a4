-- The numbers that refusals of a statement go by.
use Rattle.std.specs.Prelude.{ℕ, List, ◌++◌, codes, decimal}
use Rattle.statements.specs.declared.refusal.Total.{Total}
use Rattle.statements.specs.declared.refusal.Total.TheVariants.{Import, FeedIn}

-- the place of a total that differs, which is told beside DIFFERS
abbrev pub total_place : Total → ℕ
total_place Import = 1
total_place FeedIn = 2

-- DIFFERS, a total of the grid operator is another; SHORT, a print buffer has too few bytes; FILENO, no number to file under
abbrev pub differs_number : ℕ
differs_number = 16

abbrev pub short_number : ℕ
short_number = 17

abbrev pub fileno_number : ℕ
fileno_number = 18

-- a refusal as it is told: by its name and its number, DIFFERS also by the place of the total
abbrev pub differs_told : Total → List ℕ
differs_told t = codes "DIFFERS (" ++ decimal differs_number ++ codes "), place " ++ decimal (total_place t)

abbrev pub short_told : List ℕ
short_told = codes "SHORT (" ++ decimal short_number ++ codes ")"

abbrev pub fileno_told : List ℕ
fileno_told = codes "FILENO (" ++ decimal fileno_number ++ codes ")"
