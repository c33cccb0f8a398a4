-- The limits that an entry keeps.
use Rattle.std.specs.Prelude.{Bool, not, ◌&&◌, is_some, Option, nat_lt}
use Rattle.entries.specs.declared.case.Case.{Case}
use Rattle.entries.specs.declared.entry.Entry.{Entry}
use Rattle.entries.specs.declared.readings.Mark.{Mark}
use Rattle.entries.specs.Marks.{lowest_over}
use Rattle.entries.specs.Cases.{reading_limits}

-- the lowest mark whose reading is over its limit in the case
abbrev pub unfit_reading : Case → Entry → Option Mark
unfit_reading c e = lowest_over (reading_limits c) e.readings

-- the applicable value is over 100,000 hundredths of a cent per kWh
abbrev pub value_over : Entry → Bool
value_over e = nat_lt 100000 e.value

-- every reading and the value keep their limits
abbrev pub within_limits : Case → Entry → Bool
within_limits c e = not (is_some (unfit_reading c e)) && not (value_over e)
