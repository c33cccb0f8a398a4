-- The sums over the standing entries of a year.
use Rattle.std.specs.Prelude.{ℕ}
use Rattle.entries.specs.declared.entry.Entry.{Entry}
use Rattle.entries.specs.Pairs.{Pairs, most_quarters, total}
use Rattle.sums.specs.declared.totals.Totals.{Totals}
use Rattle.sums.specs.Quarter.{grid_draw, stored_feed_in, plant_draw, direct_feed_in, in_paid, in_zero}

-- a way to sum an amount over entries makes the record of sums
abbrev pub gather : ((Entry → ℕ) → ℕ) → Totals
gather sum =
    record {
      readings =
          record {
            import = sum (λ e. e.readings.import);
            feed_in = sum (λ e. e.readings.feed_in);
            drawn = sum (λ e. e.readings.drawn);
            given = sum (λ e. e.readings.given);
            storage_drawn = sum (λ e. e.readings.storage_drawn);
            storage_given = sum (λ e. e.readings.storage_given);
          };
      grid_draw = sum grid_draw;
      plant_draw = sum plant_draw;
      stored_feed_in = sum stored_feed_in;
      paid_direct = sum (in_paid direct_feed_in);
      zero_direct = sum (in_zero direct_feed_in);
      paid_stored = sum (in_paid stored_feed_in);
      zero_stored = sum (in_zero stored_feed_in);
    }

-- the sums of a year, over all its quarters
abbrev pub totals : Pairs → Totals
totals p = gather (λ f. total f p most_quarters)
