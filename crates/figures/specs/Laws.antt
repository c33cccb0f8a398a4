-- The laws by which the figures of a year add up.
use Rattle.std.specs.Prelude.{◌≡◌, ℕ, ◌+◌, ◌≤◌, pos, ◌+ℤ◌}
use Rattle.entries.specs.declared.case.Case.{Case}
use Rattle.entries.specs.declared.case.Case.TheVariants.{Storage, ChargePoint, Both, BothMetered}
use Rattle.figures.specs.declared.figures.Figures.{Figures}

-- every Wh of the metered feed-in is in one of seven parts, and at most 3 Wh are loose
abbrev pub FeedInAddsUp : ℕ → Figures → Type 0
FeedInAddsUp feed_in r =
    (feed_in
    ≡ r.fund_direct + r.zero_direct + r.fund_stored + r.zero_stored + r.nettable + r.foreign + r.loose)
    × (r.loose ≤ 3)

-- every Wh of the metered import is levied, nettable or lost, over the integers
abbrev pub ImportEven : ℕ → Figures → Type 0
ImportEven import r = pos import ≡ pos r.levied +ℤ pos r.nettable +ℤ r.loss

-- it is in every case but that with a meter for the storage alone
abbrev pub ImportAddsUp : Case → ℕ → Figures → Type 0
ImportAddsUp Storage import r = ImportEven import r
ImportAddsUp ChargePoint import r = ImportEven import r
ImportAddsUp Both import r = ImportEven import r
ImportAddsUp BothMetered import r = Unit {0}
