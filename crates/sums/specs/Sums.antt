-- What every record of sums keeps, and what one entry more or less makes of it.
use Rattle.std.specs.Prelude.{◌≡◌, ℕ, ◌+◌, ◌-◌, ◌≤◌, None, Option, nat_lt}
use Rattle.entries.specs.declared.entry.Entry.{Entry}
use Rattle.entries.specs.declared.readings.Mark.{Mark}
use Rattle.entries.specs.declared.readings.Readings.{Readings}
use Rattle.entries.specs.Marks.{reading, lowest}
use Rattle.sums.specs.declared.totals.Totals.{Totals}
use Rattle.sums.specs.Year.{gather}

-- no reading's sum passes this, in Wh
abbrev pub sum_limit : ℕ
sum_limit = 3000000000

-- what was drawn came from the grid or the plant; what was fed in went in directly or from the storage, each in paid times or in zero-times; the grid
-- draw was imported, and the stored feed-in given
abbrev pub Balanced : Totals → Type 0
Balanced t =
    (t.grid_draw + t.plant_draw ≡ t.readings.drawn)
    × (t.paid_direct + t.zero_direct + t.stored_feed_in ≡ t.readings.feed_in)
    × (t.paid_stored + t.zero_stored ≡ t.stored_feed_in)
    × (t.grid_draw ≤ t.readings.import)
    × (t.stored_feed_in ≤ t.readings.given)

-- each reading's sum is within its limit
abbrev pub Limited : Totals → Type 0
Limited t =
    ((t.readings.import ≤ sum_limit) × (t.readings.feed_in ≤ sum_limit) × (t.readings.drawn ≤ sum_limit))
    × ((t.readings.given ≤ sum_limit) × (t.readings.storage_drawn ≤ sum_limit) × (t.readings.storage_given ≤ sum_limit))

-- the sums of no entry, and of one
abbrev pub none : Totals
none = gather (λ _. 0)

abbrev pub one : Entry → Totals
one e = gather (λ f. f e)

-- two records of sums together
abbrev pub both : Totals → Totals → Totals
both t u =
    record {
      readings =
          record {
            import = t.readings.import + u.readings.import;
            feed_in = t.readings.feed_in + u.readings.feed_in;
            drawn = t.readings.drawn + u.readings.drawn;
            given = t.readings.given + u.readings.given;
            storage_drawn = t.readings.storage_drawn + u.readings.storage_drawn;
            storage_given = t.readings.storage_given + u.readings.storage_given;
          };
      grid_draw = t.grid_draw + u.grid_draw;
      plant_draw = t.plant_draw + u.plant_draw;
      stored_feed_in = t.stored_feed_in + u.stored_feed_in;
      paid_direct = t.paid_direct + u.paid_direct;
      zero_direct = t.zero_direct + u.zero_direct;
      paid_stored = t.paid_stored + u.paid_stored;
      zero_stored = t.zero_stored + u.zero_stored;
    }

-- the sums with an entry more
abbrev pub with_entry : Totals → Entry → Totals
with_entry t e = both t (one e)

-- the lowest mark whose sum would pass its limit with the entry e
unfoldable pub past : Totals → Entry → Option Mark
past t e = lowest (λ m. nat_lt sum_limit (reading m t.readings + reading m e.readings))

-- e can be added to t, and makes u of it
abbrev pub Added : Totals → Entry → Totals → Type 0
Added t e u = (past t e ≡ None) × (u ≡ with_entry t e)

-- how much more of each reading the sums can take
abbrev pub room : Readings → Readings
room r =
    record {
      import = sum_limit - r.import;
      feed_in = sum_limit - r.feed_in;
      drawn = sum_limit - r.drawn;
      given = sum_limit - r.given;
      storage_drawn = sum_limit - r.storage_drawn;
      storage_given = sum_limit - r.storage_given;
    }

-- u is what the sums t were before the entry e was added
abbrev pub Before : Entry → Totals → Totals → Type 0
Before e t u = Balanced u × (with_entry u e ≡ t)

-- the entry e was added to no balanced sums to make t
abbrev pub NeverAdded : Entry → Totals → Type 0
NeverAdded e t = (u : Totals) → Before e t u → ⊥

-- each amount of p is at most t's, so that what is left of t balances
abbrev pub PartOf : Totals → Totals → Type 0
PartOf p t =
    ((p.grid_draw ≤ t.grid_draw) × (p.plant_draw ≤ t.plant_draw) × (p.readings.storage_drawn ≤ t.readings.storage_drawn) × (p.readings.storage_given ≤ t.readings.storage_given))
    × ((p.paid_direct ≤ t.paid_direct) × (p.zero_direct ≤ t.zero_direct) × (p.paid_stored ≤ t.paid_stored) × (p.zero_stored ≤ t.zero_stored))
    × ((p.readings.import - p.grid_draw ≤ t.readings.import - t.grid_draw) × (p.readings.given - p.stored_feed_in ≤ t.readings.given - t.stored_feed_in))
