-- A store's sheet, and when sums belong to one.
use Rattle.std.specs.Prelude.{◌≡◌, ℕ, ◌<◌, ◌≤◌, true, Some}
use Rattle.entries.specs.declared.case.Case.{Case}
use Rattle.entries.specs.declared.entry.Entry.{Entry}
use Rattle.entries.specs.Entries.{within_limits}
use Rattle.sums.specs.declared.sums.Sums.{Sums}
use Rattle.sums.specs.declared.totals.Totals.{Totals}
use Rattle.sums.specs.Year.{totals}
use Rattle.stores.specs.declared.store.Store.{Ghosts}
use Rattle.book.specs.Calendar.{quarters}
use Rattle.book.specs.Sheet.{Sheet}

-- what a book over a store of this type holds
pub record BookFields (S : Type 0) : Type 0 where
  pub store : S
  pub sums : Sums
  pub case : Case
  pub year : ℕ

-- the sheet that a store of this make keeps in a case and a year
abbrev pub sheet_over : {S : Type 0} → Ghosts S → S → Case → ℕ → Sheet
sheet_over m store case year = record { reach = m.reach store; capacity = m.capacity store; case = case; year = year; pairs = m.pairs store }

-- sums t belong to the sheet s: they are those of its entries, each entry is within its limits and for a quarter of the year, and the store reaches over
-- the year
pub record InOrder (s : Sheet) (t : Totals) : Type 0 where
  pub sums : t ≡ totals s.pairs
  pub within : (q : ℕ) (e : Entry) → s.pairs q ≡ Some e → (q < quarters s.year) × (within_limits s.case e ≡ true)
  pub reached : quarters s.year ≤ s.reach
