-- The sheet kept by hand beside a book: what each call must answer, and what then stands. It knows a call's arguments, what a fetch's series have at the
-- quarter, and the store's reach and capacity; nothing of the book's own.
use Rattle.std.specs.Prelude.{◌≡◌, ℕ, Bool, true, false, cond, not, ◌||◌, List, [], ◌∷◌, ◌++◌, is_some, Some, None, Ok, Err, Option, Result, nat_le, nat_lt}
use Rattle.std.specs.Option.{unwrap_or}
use Rattle.entries.specs.declared.case.Case.{Case}
use Rattle.entries.specs.declared.case.Case.TheVariants.{Storage, ChargePoint, Both, BothMetered}
use Rattle.entries.specs.declared.entry.Entry.{Entry}
use Rattle.entries.specs.declared.readings.Mark.{Mark}
use Rattle.entries.specs.Marks.{mark_number}
use Rattle.entries.specs.Cases.{case_numbered}
use Rattle.entries.specs.Entries.{unfit_reading, value_over}
use Rattle.entries.specs.Pairs.{Pairs, no_pairs, updated, without, tally}
use Rattle.sums.specs.Year.{totals}
use Rattle.sums.specs.Sums.{past}
use Rattle.series.specs.declared.fault.Fault.{Fault}
use Rattle.series.specs.Limits.{Reading, Value}
use Rattle.statements.specs.declared.statement.Statement.{Statement}
use Rattle.statements.specs.Statements.{statement_of}
use Rattle.book.specs.declared.refusal.Source.{Source}
use Rattle.book.specs.declared.refusal.Source.TheVariants.{Values, First, Second, Third}
use Rattle.book.specs.declared.refusal.Refusal.TheVariants.{Series}
use Rattle.book.specs.Calendar.{quarters}
use Rattle.book.specs.Refusals.{refusal_number, refusal_values}

-- what is written down: the case, the year and the standing entries, for a store with this reach and capacity
pub record Sheet : Type 0 where
  pub reach : ℕ
  pub capacity : ℕ
  pub case : Case
  pub year : ℕ
  pub pairs : Pairs

-- the sheet of a new book: case 1, no year, no entry
abbrev pub blank : ℕ → ℕ → Sheet
blank reach capacity = record { reach = reach; capacity = capacity; case = Storage; year = 0; pairs = no_pairs }

-- a call with its arguments; of its series a fetch brings what they have at the quarter: the value list, Z1, Z2 and Z3
pub data Call : Type 0 where
  begin : ℕ → ℕ → Call
  post : ℕ → Entry → Call
  amend : ℕ → Entry → Call
  fetch : ℕ → Value → Reading → Reading → Reading → Call
  draw : Call

-- what a call answers: accepted, refused with a number and the values beside it, or a drawn statement
pub data Outcome : Type 0 where
  accepted : Outcome
  refused : ℕ → List ℕ → Outcome
  drafted : Statement → Outcome

-- a check: whether it is met, and the refusal where it is not
pub record Check : Type 0 where
  pub met : Bool
  pub number : ℕ
  pub values : List ℕ

-- a check with nothing beside its number
abbrev pub check : Bool → ℕ → Check
check b n = record { met = b; number = n; values = [] }

-- a check that fails where there is a mark, and names it
abbrev pub no_mark : Option Mark → ℕ → Check
no_mark None n = record { met = true; number = n; values = [] }
no_mark (Some m) n = record { met = false; number = n; values = mark_number m ∷ [] }

-- a check that a series has an item
abbrev pub present : {X : Type 0} → Source → Result X Fault → Check
present s (Ok x) = record { met = true; number = 0; values = [] }
present s (Err f) = record { met = false; number = refusal_number (Series s f); values = refusal_values (Series s f) }

-- the first check that fails, with its values
abbrev pub first_failing : List Check → Option (ℕ × List ℕ)
first_failing [] = None
first_failing (c ∷ cs) = cond c.met (first_failing cs) (Some (c.number, c.values))

-- the quarter is one of the year (4)
abbrev pub in_year : Sheet → ℕ → Check
in_year s q = check (nat_lt q (quarters s.year)) 4

-- the readings (5) and the value (6) keep their limits
abbrev pub admitted : Sheet → ℕ → Entry → List Check
admitted s q e = in_year s q ∷ (no_mark (unfit_reading s.case e) 5 ∷ (check (not (value_over e)) 6 ∷ []))

-- no reading's sum passes its limit with e beside the entries p (9)
abbrev pub summable : Pairs → Entry → Check
summable p e = no_mark (past (totals p) e) 9

-- how many entries stand
abbrev pub standing : Sheet → ℕ
standing s = tally s.pairs s.reach

-- an entry stands at the quarter, or there is room for one (10)
abbrev pub room_at : Sheet → ℕ → List Check
room_at s q = check (is_some (s.pairs q) || nat_lt (standing s) s.capacity) 10 ∷ []

-- an entry that is new at its quarter: nothing stands there (7), the sums keep their limits (9), there is room (10)
abbrev pub entry_checks : Sheet → ℕ → Entry → List Check
entry_checks s q e = check (not (is_some (s.pairs q))) 7 ∷ (summable s.pairs e ∷ (check (nat_lt (standing s) s.capacity) 10 ∷ []))

-- a post: the entry is admitted, and new at its quarter
abbrev pub post_checks : Sheet → ℕ → Entry → List Check
post_checks s q e = admitted s q e ++ entry_checks s q e

-- an amendment: the entry is admitted, one stands at the quarter (8), the sums without that keep their limits (9)
abbrev pub amend_checks : Sheet → ℕ → Entry → List Check
amend_checks s q e = admitted s q e ++ (check (is_some (s.pairs q)) 8 ∷ (summable (without s.pairs q) e ∷ []))

-- the item, or nought where there is none
abbrev pub item : {X : Type 0} → X → Result X Fault → X
item d (Ok x) = x
item d (Err f) = d

-- the entry that the series make; without a meter for the storage alone its readings are 0
abbrev pub entry_of : Value → Reading → Reading → ℕ × ℕ → Entry
entry_of v z1 z2 storage =
    record {
      readings =
          record {
            import = (item (0, 0) z1).0;
            feed_in = (item (0, 0) z1).1;
            drawn = (item (0, 0) z2).0;
            given = (item (0, 0) z2).1;
            storage_drawn = storage.0;
            storage_given = storage.1;
          };
      value = item 0 v;
    }

-- the third meter is asked only where the storage has one of its own
abbrev pub third : {X : Type 0} → Case → X → X → X
third Storage unasked asked = unasked
third ChargePoint unasked asked = unasked
third Both unasked asked = unasked
third BothMetered unasked asked = asked

-- the entry that a fetch enters
abbrev pub fetched : Case → Value → Reading → Reading → Reading → Entry
fetched c v z1 z2 z3 = entry_of v z1 z2 (third c (0, 0) (item (0, 0) z3))

-- the checks of a call, in their order
abbrev pub checks : Sheet → Call → List Check
checks s (begin k y) =
    check (is_some (case_numbered k)) 1 ∷ (check (nat_le 2025 y) 2 ∷ (check (nat_le y 2099) 2 ∷ (check (nat_le (quarters y) s.reach) 3 ∷ [])))
checks s (post q e) = post_checks s q e
checks s (amend q e) = amend_checks s q e
checks s (fetch q v z1 z2 z3) =
    in_year s q ∷ (present Values v ∷ (present First z1 ∷ (present Second z2
    ∷ (third s.case [] (present Third z3 ∷ []) ++ post_checks s q (fetched s.case v z1 z2 z3)))))
checks s draw = []

-- the sheet begun anew: in this case and year, with no entry
abbrev pub begun : Sheet → Case → ℕ → Sheet
begun s c y = record { reach = s.reach; capacity = s.capacity; case = c; year = y; pairs = no_pairs }

-- the sheet with e at q
abbrev pub written : Sheet → ℕ → Entry → Sheet
written s q e = record { reach = s.reach; capacity = s.capacity; case = s.case; year = s.year; pairs = updated s.pairs q e }

-- what an accepted call writes down
abbrev pub effect : Sheet → Call → Sheet
effect s (begin k y) = begun s (unwrap_or (case_numbered k) Storage) y
effect s (post q e) = written s q e
effect s (amend q e) = written s q e
effect s (fetch q v z1 z2 z3) = written s q (fetched s.case v z1 z2 z3)
effect s draw = s

-- the statement over the standing entries
abbrev pub statement : Sheet → Statement
statement s = statement_of s.case s.year (standing s) (totals s.pairs)

-- what an accepted call answers
abbrev pub reply : Sheet → Call → Outcome
reply s (begin k y) = accepted
reply s (post q e) = accepted
reply s (amend q e) = accepted
reply s (fetch q v z1 z2 z3) = accepted
reply s draw = drafted (statement s)

-- the refusal, or else this answer
abbrev pub answered : Option (ℕ × List ℕ) → Outcome → Outcome
answered None o = o
answered (Some r) o = refused r.0 r.1

-- the sheet t, or s after a refusal
abbrev pub left_as : Option (ℕ × List ℕ) → Sheet → Sheet → Sheet
left_as None t s = t
left_as (Some r) t s = s

-- the answer to a call: the first check that fails, else its reply
unfoldable pub outcome : Sheet → Call → Outcome
outcome s c = answered (first_failing (checks s c)) (reply s c)

-- the sheet after a call: a refused one leaves it
unfoldable pub after : Sheet → Call → Sheet
after s c = left_as (first_failing (checks s c)) (effect s c) s

-- the answer o and the sheet t are those of the call c on the sheet s
pub record Told (s : Sheet) (c : Call) (o : Outcome) (t : Sheet) : Type 0 where
  pub answer : o ≡ outcome s c
  pub sheet : t ≡ after s c
