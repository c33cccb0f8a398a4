-- Faults: their numbers, what is told beside the number, how they print and how they climb. Assumes nothing.
use Rattle.std.specs.Prelude.{◌≡◌, ℕ, ◌+◌, ◌≤◌, ◌++◌, List, min, Some, None, Ok, Err, Option, Result, codes, decimal}
use Rattle.series.specs.declared.fault.Cause.{Cause}
use Rattle.series.specs.declared.fault.Cause.TheVariants.{Missing, Fell, TooBig}
use Rattle.series.specs.declared.fault.Fault.{Fault}

-- the number of a cause
abbrev pub cause_number : Cause → ℕ
cause_number Missing = 11
cause_number Fell = 12
cause_number TooBig = 13

-- the name under which a cause is told
abbrev pub cause_text : Cause → List ℕ
cause_text Missing = codes "MISSING"
cause_text Fell = codes "FELL"
cause_text TooBig = codes "TOO BIG"

-- what is told beside a fault's number: the quarter asked for, and the depth
abbrev pub fault_values : Fault → ℕ × ℕ
fault_values f = (f.quarter, f.depth)

-- how a fault prints: the number of its cause, the quarter asked for and the depth
abbrev pub fault_text : Fault → List ℕ
fault_text f =
    codes "fault " ++ decimal (cause_number f.cause) ++ codes ", quarter " ++ decimal f.quarter ++ codes ", depth " ++ decimal f.depth

-- a fault of the asked layer itself
abbrev pub own_fault : Cause → ℕ → Fault
own_fault c q = record { cause = c; quarter = q; depth = 0 }

-- a fault seen from one layer further up: one layer more stands above its place, and 255 stays
abbrev pub raised : Fault → Fault
raised f = record { cause = f.cause; quarter = f.quarter; depth = min (f.depth + 1) 255 }

-- an answer seen from one layer further up
abbrev pub seen_from_above : {X : Type 0} → Result X Fault → Result X Fault
seen_from_above (Ok x) = Ok x
seen_from_above (Err f) = Err (raised f)

-- no fault, or one that names the quarter q and has a depth of at most 255
abbrev pub FaultFor : ℕ → Option Fault → Type 0
FaultFor q None = Unit {0}
FaultFor q (Some f) = (f.quarter ≡ q) × (f.depth ≤ 255)
