-- The lowest mark that passes a test.
use Rattle.std.proofs.Common.{◌≡◌, Bool, false, None, arith}
use Rattle.std.proofs.lemmas.Bool.Decides.{nat_tests}
use Rattle.entries.specs.declared.readings.Mark.{Mark}
use Rattle.entries.specs.declared.readings.Mark.TheVariants.{Import, FeedIn, Drawn, Given, StorageDrawn, StorageGiven}
use Rattle.entries.specs.Marks.{lowest}

-- where there is none, every mark fails the test
pub lowest_none : (p : Mark → Bool) → lowest p ≡ None → (m : Mark) → p m ≡ false
lowest_none p h Import = grind (arith, nat_tests)
lowest_none p h FeedIn = grind (arith, nat_tests)
lowest_none p h Drawn = grind (arith, nat_tests)
lowest_none p h Given = grind (arith, nat_tests)
lowest_none p h StorageDrawn = grind (arith, nat_tests)
lowest_none p h StorageGiven = grind (arith, nat_tests)
