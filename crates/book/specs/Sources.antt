-- What the series of a site make of a quarter.
use Rattle.std.specs.Prelude.{ℕ, Ok, Err, Result}
use Rattle.entries.specs.declared.case.Case.{Case}
use Rattle.entries.specs.declared.case.Case.TheVariants.{Storage, ChargePoint, Both, BothMetered}
use Rattle.entries.specs.declared.entry.Entry.{Entry}
use Rattle.series.specs.declared.fault.Fault.{Fault}
use Rattle.series.specs.declared.series.Meter as meters
use Rattle.series.specs.declared.series.ValueList as lists
use Rattle.series.specs.Limits.{Reading, Value}
use Rattle.book.specs.declared.refusal.Source.{Source}
use Rattle.book.specs.declared.refusal.Source.TheVariants.{Values, First, Second, Third}
use Rattle.book.specs.declared.refusal.SourceFault.{SourceFault}
use Rattle.book.specs.declared.sources.Sources.{Sources}
use Rattle.book.specs.Sheet.{Call, fetch, entry_of}

-- an answer, with the series that a fault is of
abbrev pub sourced : {X : Type 0} → Source → Result X Fault → Result X SourceFault
sourced s (Ok x) = Ok x
sourced s (Err f) = Err (record { source = s; fault = f })

-- what the storage's own meter has; without one its readings are 0
abbrev pub storage_reading : Case → Reading → Result (ℕ × ℕ) SourceFault
storage_reading Storage z3 = Ok (0, 0)
storage_reading ChargePoint z3 = Ok (0, 0)
storage_reading Both z3 = Ok (0, 0)
storage_reading BothMetered z3 = sourced Third z3

-- the entry that the answers make, or the first fault among them
abbrev pub gathered : Value → Reading → Reading → Result (ℕ × ℕ) SourceFault → Result Entry SourceFault
gathered (Err f) z1 z2 z3 = sourced Values (Err f)
gathered (Ok v) (Err f) z2 z3 = sourced First (Err f)
gathered (Ok v) (Ok a) (Err f) z3 = sourced Second (Err f)
gathered (Ok v) (Ok a) (Ok b) (Err f) = Err f
gathered (Ok v) (Ok a) (Ok b) (Ok storage) = Ok (entry_of (Ok v) (Ok a) (Ok b) storage)

module _ {V X Y Z : Type 0} (l : lists.Ghosts V) (a : meters.Ghosts X) (b : meters.Ghosts Y) (d : meters.Ghosts Z) where
  -- the same, of the series themselves
  abbrev pub gathered_from : Case → Sources V X Y Z → ℕ → Result Entry SourceFault
  gathered_from c s q =
      gathered (l.values s.values.now q) (a.readings s.first.now q) (b.readings s.second.now q)
      (storage_reading c (d.readings s.third.now q))

  -- a fetch of the quarter q from these series
  abbrev pub fetch_from : Sources V X Y Z → ℕ → Call
  fetch_from s q =
      fetch q (l.values s.values.now q) (a.readings s.first.now q) (b.readings s.second.now q) (d.readings s.third.now q)
