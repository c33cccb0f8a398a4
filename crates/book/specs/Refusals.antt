-- The number that a refusal goes by, and what is returned beside it.
use Rattle.std.specs.Prelude.{ℕ, List, [], ◌∷◌, ◌++◌, codes, Some, None, Ok, Err, Option, Result}
use Rattle.entries.specs.Marks.{mark_number}
use Rattle.std.specs.Fmt.{decimal}
use Rattle.series.specs.Faults.{cause_number, cause_text}
use Rattle.stores.specs.declared.store.PutRefusal.{PutRefusal}
use Rattle.stores.specs.declared.store.PutRefusal.TheVariants.{Quarter as OutOfReach, Full as NoRoom}
use Rattle.sums.specs.declared.sums.ReplaceRefusal.{ReplaceRefusal}
use Rattle.sums.specs.declared.sums.ReplaceRefusal.TheVariants.{NotHeld, Over}
use Rattle.book.specs.declared.refusal.Source.{Source}
use Rattle.book.specs.declared.refusal.Source.TheVariants.{Values, First, Second, Third}
use Rattle.book.specs.declared.refusal.Refusal.{Refusal}
use Rattle.book.specs.declared.refusal.Refusal.TheVariants.{Case, Year, Reach, Quarter, Reading, Value, Standing, Absent, Sum, Full, Series}

-- the number of a series that a fetch asks
abbrev pub source_number : Source → ℕ
source_number Values = 1
source_number First = 2
source_number Second = 3
source_number Third = 4

-- the number that a refusal goes by
abbrev pub refusal_number : Refusal → ℕ
refusal_number Case = 1
refusal_number Year = 2
refusal_number Reach = 3
refusal_number Quarter = 4
refusal_number (Reading m) = 5
refusal_number Value = 6
refusal_number Standing = 7
refusal_number Absent = 8
refusal_number (Sum m) = 9
refusal_number Full = 10
refusal_number (Series s f) = cause_number f.cause

-- beside the number: the mark of a reading, or a fault's series, quarter and depth
abbrev pub refusal_values : Refusal → List ℕ
refusal_values Case = []
refusal_values Year = []
refusal_values Reach = []
refusal_values Quarter = []
refusal_values (Reading m) = mark_number m ∷ []
refusal_values Value = []
refusal_values Standing = []
refusal_values Absent = []
refusal_values (Sum m) = mark_number m ∷ []
refusal_values Full = []
refusal_values (Series s f) = source_number s ∷ (f.quarter ∷ (f.depth ∷ []))

-- the name that a refusal goes by
abbrev pub refusal_name : Refusal → List ℕ
refusal_name Case = codes "CASE"
refusal_name Year = codes "YEAR"
refusal_name Reach = codes "REACH"
refusal_name Quarter = codes "QUARTER"
refusal_name (Reading m) = codes "READING"
refusal_name Value = codes "VALUE"
refusal_name Standing = codes "STANDING"
refusal_name Absent = codes "ABSENT"
refusal_name (Sum m) = codes "SUM"
refusal_name Full = codes "FULL"
refusal_name (Series s f) = cause_text f.cause

-- what is told beside name and number: the mark of a reading, or a fault's series, quarter and depth
abbrev pub told_beside : Refusal → List ℕ
told_beside Case = []
told_beside Year = []
told_beside Reach = []
told_beside Quarter = []
told_beside (Reading m) = codes ", mark " ++ decimal (mark_number m)
told_beside Value = []
told_beside Standing = []
told_beside Absent = []
told_beside (Sum m) = codes ", mark " ++ decimal (mark_number m)
told_beside Full = []
told_beside (Series s f) =
    codes ", series " ++ decimal (source_number s) ++ codes ", quarter " ++ decimal f.quarter ++ codes ", depth " ++ decimal f.depth

-- a refusal as it is told: its name, its number in brackets, and what is told beside them
abbrev pub refusal_text : Refusal → List ℕ
refusal_text r = refusal_name r ++ codes " (" ++ decimal (refusal_number r) ++ codes ")" ++ told_beside r

-- a refusal as number and values
abbrev pub told : Refusal → ℕ × List ℕ
told r = (refusal_number r, refusal_values r)

-- the refusal in an answer, if it is one
abbrev pub refusal_in : Result (Unit {0}) Refusal → Option (ℕ × List ℕ)
refusal_in (Ok x) = None
refusal_in (Err r) = Some (told r)

-- what a store's refusal of a put is to the book
abbrev pub put_refused : PutRefusal → Refusal
put_refused OutOfReach = Quarter
put_refused NoRoom = Full

-- what it is to the book that an entry cannot take another's place in the sums
abbrev pub replace_refused : ReplaceRefusal → Refusal
replace_refused NotHeld = Absent
replace_refused (Over m) = Sum m
