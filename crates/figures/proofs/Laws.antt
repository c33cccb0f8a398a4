-- The figures of sums that balance add up.
use Rattle.std.proofs.Common.{◌≡◌, suc, ◌+◌, ◌-◌, ◌*◌, ◌≤◌, ltb, pos, negsuc, ◌+ℤ◌, ◌≤ℤ◌, arith}
use Rattle.std.proofs.lemmas.Int.{ints}
use Rattle.std.proofs.lemmas.Bool.{cond_both, ltb-false}
use Rattle.entries.specs.declared.case.Case.{Case}
use Rattle.entries.specs.declared.case.Case.TheVariants.{Storage, ChargePoint, Both, BothMetered}
use Rattle.sums.specs.declared.totals.Totals.{Totals}
use Rattle.sums.specs.Sums.{Balanced}
use Rattle.figures.specs.Figures.{total_draw, foreign_energy, share, remainder, signed_share, nettable_of, fund_stored_of, zero_stored_of, foreign_of, loose_of, loss_of, figures_of}
use Rattle.figures.specs.Laws.{FeedInAddsUp, ImportAddsUp}
use Rattle.figures.proofs.Shares.{shares_add_up, four_remainders, share_le, two_shares_le, left_over}

stored_within : (t : Totals) → Balanced t → t.stored_feed_in ≤ total_draw t
unfolding total_draw
stored_within t b = omega arith

pub feed_in_is : (t : Totals) → Balanced t
    → nettable_of t + t.paid_direct + t.zero_direct + fund_stored_of t + zero_stored_of t + foreign_of t + loose_of t ≡ t.readings.feed_in
unfolding total_draw share remainder
feed_in_is t b =
    let parts : t.grid_draw + t.plant_draw + foreign_energy t ≡ total_draw t = omega arith in
    omega (
      arith,
      shares_add_up t.grid_draw t.plant_draw (foreign_energy t) t.stored_feed_in t.paid_stored t.zero_stored (total_draw t)
          parts b.2 (stored_within t b),
    )

pub loose_most : (t : Totals) → loose_of t ≤ 3
unfolding remainder
loose_most t =
    four_remainders (t.grid_draw * t.stored_feed_in) (t.plant_draw * t.paid_stored) (t.plant_draw * t.zero_stored)
    (foreign_energy t * t.stored_feed_in) (total_draw t)

pub feed_in_adds_up : (c : Case) (t : Totals) → Balanced t → FeedInAddsUp t.readings.feed_in (figures_of c t)
unfolding figures_of
feed_in_adds_up c t b = (omega (arith, feed_in_is t b), loose_most t)

nettable_within : (t : Totals) → Balanced t → nettable_of t ≤ t.grid_draw
unfolding share
nettable_within t b = share_le t.grid_draw t.stored_feed_in (total_draw t) (stored_within t b)

-- with the storage alone behind the meter, the nettable part and the loss are together no more than the import
storage_within : (t : Totals) → Balanced t → (pos (nettable_of t) +ℤ loss_of Storage t) ≤ℤ pos t.readings.import
unfolding total_draw share
storage_within t b =
    cond_both (ltb t.readings.drawn t.readings.given) (negsuc (t.readings.given - suc t.readings.drawn)) (pos (t.readings.drawn - t.readings.given))
    (λ z. (pos (nettable_of t) +ℤ signed_share t.grid_draw z (total_draw t)) ≤ℤ pos t.readings.import)
    (λ e. omega (arith, ints, nettable_within t b))
    (λ e.
    omega (
      arith,
      ints,
      two_shares_le t.grid_draw t.stored_feed_in (t.readings.drawn - t.readings.given) (total_draw t)
          (omega (arith, ltb-false t.readings.drawn t.readings.given e)),
    ))

pub import_adds_up : (c : Case) (t : Totals) → Balanced t → ImportAddsUp c t.readings.import (figures_of c t)
unfolding figures_of
import_adds_up Storage t b = left_over t.readings.import (nettable_of t) (loss_of Storage t) (storage_within t b)
import_adds_up ChargePoint t b = left_over t.readings.import (nettable_of t) (pos 0) (omega (arith, ints, nettable_within t b))
import_adds_up Both t b = left_over t.readings.import (nettable_of t) (pos 0) (omega (arith, ints, nettable_within t b))
import_adds_up BothMetered t b = tt
