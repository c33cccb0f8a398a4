-- What a quarter-hour's readings say of where its energy came from and went.
use Rattle.std.specs.Prelude.{ℕ, ◌-◌, min, cond, nat_lt}
use Rattle.entries.specs.declared.entry.Entry.{Entry}

-- the grid draw: what storage and charge point drew while as much was imported
abbrev pub grid_draw : Entry → ℕ
grid_draw e = min e.readings.import e.readings.drawn

-- the stored feed-in: what was fed in while storage and charge point gave as much
abbrev pub stored_feed_in : Entry → ℕ
stored_feed_in e = min e.readings.feed_in e.readings.given

-- the plant draw: what else they drew came from the plant
abbrev pub plant_draw : Entry → ℕ
plant_draw e = e.readings.drawn - grid_draw e

-- the direct feed-in: what else was fed in came straight from the plant
abbrev pub direct_feed_in : Entry → ℕ
direct_feed_in e = e.readings.feed_in - stored_feed_in e

-- an amount in paid times only, where the applicable value is above 0
abbrev pub in_paid : (Entry → ℕ) → Entry → ℕ
in_paid f e = cond (nat_lt 0 e.value) (f e) 0

-- an amount in zero-times only, where the applicable value is 0
abbrev pub in_zero : (Entry → ℕ) → Entry → ℕ
in_zero f e = cond (nat_lt 0 e.value) 0 (f e)
