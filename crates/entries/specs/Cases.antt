-- The four metering cases.
use Rattle.std.specs.Prelude.{ℕ, cond, Some, None, Ok, Err, Option, Result, ◌==◌}
use Rattle.entries.specs.declared.case.Case.{Case}
use Rattle.entries.specs.declared.case.NoSuchCase.{NoSuchCase}
use Rattle.entries.specs.declared.case.Case.TheVariants.{Storage, ChargePoint, Both, BothMetered}
use Rattle.entries.specs.declared.readings.Readings.{Readings}

-- the number that a case goes by
abbrev pub case_number : Case → ℕ
case_number Storage = 1
case_number ChargePoint = 2
case_number Both = 3
case_number BothMetered = 4

-- the case with the number n, if one has it
abbrev pub case_numbered : ℕ → Option Case
case_numbered n =
    cond (n == 1) (Some Storage)
    (cond (n == 2) (Some ChargePoint)
    (cond (n == 3) (Some Both)
    (cond (n == 4) (Some BothMetered) None)))

-- that case, or the number that no case has
abbrev pub case_or_number : Option Case → ℕ → Result Case NoSuchCase
case_or_number None n = Err (record { 0 = n })
case_or_number (Some c) n = Ok c

-- what a number is read as: the case that it numbers
abbrev pub case_read : ℕ → Result Case NoSuchCase
case_read n = case_or_number (case_numbered n) n

-- the most that a reading of the storage alone may be: 0 without a meter of its own
abbrev pub storage_limit : Case → ℕ
storage_limit Storage = 0
storage_limit ChargePoint = 0
storage_limit Both = 0
storage_limit BothMetered = 1000000

-- the most that each reading of a quarter may be, in Wh
abbrev pub reading_limits : Case → Readings
reading_limits c =
    record {
      import = 1000000;
      feed_in = 1000000;
      drawn = 1000000;
      given = 1000000;
      storage_drawn = storage_limit c;
      storage_given = storage_limit c;
    }
