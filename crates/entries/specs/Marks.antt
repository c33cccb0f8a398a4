-- The marks of the six readings.
use Rattle.std.specs.Prelude.{ℕ, Bool, cond, Some, None, Option, nat_lt}
use Rattle.entries.specs.declared.readings.Mark.{Mark}
use Rattle.entries.specs.declared.readings.Mark.TheVariants.{Import, FeedIn, Drawn, Given, StorageDrawn, StorageGiven}
use Rattle.entries.specs.declared.readings.Readings.{Readings}

-- the number that a mark goes by
abbrev pub mark_number : Mark → ℕ
mark_number Import = 1
mark_number FeedIn = 2
mark_number Drawn = 3
mark_number Given = 4
mark_number StorageDrawn = 5
mark_number StorageGiven = 6

-- the amount at a mark
abbrev pub reading : Mark → Readings → ℕ
reading Import r = r.import
reading FeedIn r = r.feed_in
reading Drawn r = r.drawn
reading Given r = r.given
reading StorageDrawn r = r.storage_drawn
reading StorageGiven r = r.storage_given

-- the lowest mark that passes a test
abbrev pub lowest : (Mark → Bool) → Option Mark
lowest p =
    cond (p Import) (Some Import)
    (cond (p FeedIn) (Some FeedIn)
    (cond (p Drawn) (Some Drawn)
    (cond (p Given) (Some Given)
    (cond (p StorageDrawn) (Some StorageDrawn)
    (cond (p StorageGiven) (Some StorageGiven) None)))))

-- the lowest mark whose amount is over the limit at that mark
unfoldable pub lowest_over : Readings → Readings → Option Mark
lowest_over limits r = lowest (λ m. nat_lt (reading m limits) (reading m r))
