-- The figures of a year's statement, from the sums of the year.
use Rattle.std.specs.Prelude.{ℕ, suc, ◌+◌, ◌-◌, ◌*◌, ◌/◌, ◌%◌, ℤ, pos, negsuc, ◌-ℤ◌, neg_ℤ}
use Rattle.std.proofs.Math.IntN.{sub_ℕ}
use Rattle.entries.specs.declared.case.Case.{Case}
use Rattle.entries.specs.declared.case.Case.TheVariants.{Storage, ChargePoint, Both, BothMetered}
use Rattle.entries.specs.Pairs.{Pairs}
use Rattle.figures.specs.declared.figures.Figures.{Figures}
use Rattle.sums.specs.declared.totals.Totals.{Totals}
use Rattle.sums.specs.Year.{totals}

-- foreign energy: what storage and charge point gave beyond all that they drew (a difference stops at 0)
abbrev pub foreign_energy : Totals → ℕ
foreign_energy t = t.readings.given - t.readings.drawn

-- the total draw, of which the shares are taken
unfoldable pub total_draw : Totals → ℕ
total_draw t = t.readings.drawn + foreign_energy t

-- a part times an amount over the whole, rounded down; a quotient by 0 is 0
unfoldable pub share : ℕ → ℕ → ℕ → ℕ
share part amount whole = part * amount / whole

-- what that rounding leaves
unfoldable pub remainder : ℕ → ℕ → ℕ → ℕ
remainder part amount whole = part * amount % whole

-- the same share of a signed amount, rounded toward zero
abbrev pub signed_share : ℕ → ℤ → ℕ → ℤ
signed_share part (pos n) whole = pos (share part n whole)
signed_share part (negsuc n) whole = neg_ℤ (pos (share part (suc n) whole))

-- a number, or 0 where it is below 0
abbrev pub or_nothing : ℤ → ℕ
or_nothing (pos n) = n
or_nothing (negsuc n) = 0

-- the stored feed-in that had been imported before: no levies are due on it
abbrev pub nettable_of : Totals → ℕ
nettable_of t = share t.grid_draw t.stored_feed_in (total_draw t)

-- the stored feed-in that had come from the plant, in paid times and in zero-times
abbrev pub fund_stored_of : Totals → ℕ
fund_stored_of t = share t.plant_draw t.paid_stored (total_draw t)

abbrev pub zero_stored_of : Totals → ℕ
zero_stored_of t = share t.plant_draw t.zero_stored (total_draw t)

-- the stored feed-in that is foreign energy
abbrev pub foreign_of : Totals → ℕ
foreign_of t = share (foreign_energy t) t.stored_feed_in (total_draw t)

-- what the four roundings leave together
abbrev pub loose_of : Totals → ℕ
loose_of t =
    (remainder t.grid_draw t.stored_feed_in (total_draw t)
    + remainder t.plant_draw t.paid_stored (total_draw t)
    + remainder t.plant_draw t.zero_stored (total_draw t)
    + remainder (foreign_energy t) t.stored_feed_in (total_draw t))
    / total_draw t

-- the grid's share of what the storage lost: by the second meter where it has the storage alone behind it, by the storage's own meter where there is one,
-- and none where a charge point stands behind the only meter
abbrev pub loss_of : Case → Totals → ℤ
loss_of Storage t = signed_share t.grid_draw (sub_ℕ t.readings.drawn t.readings.given) (total_draw t)
loss_of ChargePoint t = pos 0
loss_of Both t = pos 0
loss_of BothMetered t = signed_share t.grid_draw (sub_ℕ t.readings.storage_drawn t.readings.storage_given) (total_draw t)

-- the import on which levies are due
abbrev pub levied_of : Case → Totals → ℕ
levied_of c t = or_nothing (pos t.readings.import -ℤ pos (nettable_of t) -ℤ loss_of c t)

-- all figures
unfoldable pub figures_of : Case → Totals → Figures
figures_of c t =
    record {
      nettable = nettable_of t;
      loss = loss_of c t;
      levied = levied_of c t;
      fund_direct = t.paid_direct;
      fund_stored = fund_stored_of t;
      fund_all = t.paid_direct + fund_stored_of t;
      zero_direct = t.zero_direct;
      zero_stored = zero_stored_of t;
      foreign = foreign_of t;
      loose = loose_of t;
    }

-- the figures of the year with these standing entries
abbrev pub year_figures : Case → Pairs → Figures
year_figures c p = figures_of c (totals p)
