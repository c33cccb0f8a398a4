-- A book beside its sheet.
use Rattle.std.specs.Prelude.{◌≡◌, ℕ, List, Ok, Err, Result}
use Rattle.std.specs.Result.{MatchResult}
use Rattle.stores.specs.declared.store.Store.{Ghosts}
use Rattle.book.specs.declared.book.Book.{Book}
use Rattle.book.specs.declared.refusal.Refusal.{Refusal}
use Rattle.book.specs.Order.{sheet_over, InOrder}
use Rattle.book.specs.Refusals.{refusal_number, refusal_values, refusal_in}
use Rattle.book.specs.Sheet.{Sheet, Call, Check, Outcome, accepted, refused, Told, first_failing}

-- the sheet that a book over a store of this make stands for
abbrev pub sheet_of : {S : Type 0} → Ghosts S → Book S → Sheet
sheet_of m b = sheet_over m b.store b.case b.year

-- the book's invariant
abbrev pub Kept : {S : Type 0} → Ghosts S → Book S → Type 0
Kept m b = InOrder (sheet_of m b) b.sums.totals

-- a book answers a call as the sheet does, then stands as the sheet does, and is kept; a refusal leaves the book itself
pub record Attends {S : Type 0} (m : Ghosts S) (b : Book S) (c : Call) (o : Outcome) (b' : Book S) : Type 0 where
  pub told : Told (sheet_of m b) c o (sheet_of m b')
  pub kept : Kept m b'
  pub refused : (n : ℕ) (vs : List ℕ) → o ≡ refused n vs → b' ≡ b

-- the answer of a call that returns no draft
abbrev pub outcome_of : Result (Unit {0}) Refusal → Outcome
outcome_of (Ok x) = accepted
outcome_of (Err r) = refused (refusal_number r) (refusal_values r)

-- a step of a call: it is refused by the first of its checks that fails, which leaves the book itself, and else leaves the sheet t; the book is kept
pub record Steps {S : Type 0} (m : Ghosts S) (b : Book S) (cs : List Check) (t : Sheet) (r : Result (Unit {0}) Refusal) (b' : Book S) : Type 0 where
  pub answer : refusal_in r ≡ first_failing cs
  pub after : MatchResult r (λ _. sheet_of m b' ≡ t) (λ _. b' ≡ b)
  pub kept : Kept m b'
