-- What keeps a sheet in order.
use Rattle.std.proofs.Common.{◌≡◌, ℕ, ◌%◌, ◌<◌, ◌≤◌, Bool, true, false, cond, not, ◌&&◌, eqb, ltb, [], ◌∷◌, is_some, Some, None, Option, sym, refl, ap, ◌∙◌, ⊎_elim, arith}
use Rattle.stores.specs.declared.store.Store.{Ghosts}
use Rattle.book.specs.declared.book.Book.{Book}
use Rattle.book.specs.Books.{sheet_of, Kept}
use Rattle.std.proofs.lemmas.Bool.{ltb-true, cases_eq}
use Rattle.std.proofs.lemmas.Bool.Decides.{nat_tests}
use Rattle.entries.specs.declared.entry.Entry.{Entry}
use Rattle.entries.specs.declared.readings.Mark.{Mark}
use Rattle.entries.specs.Entries.{unfit_reading, value_over, within_limits}
use Rattle.entries.specs.Pairs.{tally, Pairs, most_quarters, no_pairs, updated}
use Rattle.entries.proofs.Totals.{with_at_here, with_at_elsewhere}
use Rattle.sums.specs.declared.totals.Totals.{Totals}
use Rattle.sums.specs.Year.{totals}
use Rattle.sums.specs.Sums.{with_entry}
use Rattle.sums.proofs.Years.{totals_added}
use Rattle.stores.specs.declared.store.PutRefusal.{PutRefusal}
use Rattle.stores.specs.declared.store.PutRefusal.TheVariants.{Quarter as OutOfReach, Full as NoRoom}
use Rattle.stores.specs.Puts.{put_refusal, put_refusal_number}
use Rattle.book.specs.Calendar.{quarters}
use Rattle.book.specs.Refusals.{told, put_refused}
use Rattle.book.specs.Sheet.{Sheet, check, no_mark, first_failing, admitted, room_at}
use Rattle.book.specs.Order.{sheet_over, InOrder}

-- what it means that all checks of an admission are met
pub record Admitted (s : Sheet) (q : ℕ) (e : Entry) : Type 0 where
  pub below : q < quarters s.year
  pub fits : within_limits s.case e ≡ true

admitted_by : (a : Bool) (o : Option Mark) (v : Bool) → first_failing (check a 4 ∷ (no_mark o 5 ∷ (check (not v) 6 ∷ []))) ≡ None
    → (a ≡ true) × ((not (is_some o) && not v) ≡ true)
admitted_by true None false h = (refl, refl)
admitted_by true None true h = absurd cc
admitted_by true (Some m) v h = absurd cc
admitted_by false o v h = absurd cc

pub is_admitted : (s : Sheet) (q : ℕ) (e : Entry) → first_failing (admitted s q e) ≡ None → Admitted s q e
is_admitted s q e h =
    let a = admitted_by (ltb q (quarters s.year)) (unfit_reading s.case e) (value_over e) h in
    record { below = ltb-true q (quarters s.year) a.0; fits = a.1 }

-- no year has more quarters than the longest
quarters_by : (a b : Bool) → cond a 0 (cond b 35136 35040) ≤ most_quarters
quarters_by true b = omega arith
quarters_by false true = omega arith
quarters_by false false = omega arith

pub quarters_within : (y : ℕ) → quarters y ≤ most_quarters
unfolding quarters
quarters_within y = quarters_by (eqb y 0) (eqb (y % 4) 0)

pub admitted_within : (s : Sheet) (q : ℕ) (e : Entry) → first_failing (admitted s q e) ≡ None → q < most_quarters
admitted_within s q e h = omega (arith, (is_admitted s q e h).below, quarters_within s.year)

-- a sheet with no entry is in order with the sums of none
pub blank_in_order : (s : Sheet) (t : Totals) → s.pairs ≡ no_pairs → t ≡ totals no_pairs → quarters s.year ≤ s.reach → InOrder s t
blank_in_order s t none sums reached =
    record {
      sums = sums ∙ ap totals (sym none);
      within = λ q e stood. absurd (let z : no_pairs q ≡ Some e = sym (ap (λ (p : Pairs). p q) none) ∙ stood in cc);
      reached = reached;
    }

-- before a year has begun there is no quarter
pub unbegun : quarters 0 ≡ 0
unfolding quarters
unbegun = refl

module _ {S : Type 0} (m : Ghosts S) where
  -- the sums of a kept book, opened as b, are those of its entries
  pub year_sums : {b b' : Book S} → b ≡ b' → Kept m b → b.sums.totals ≡ totals (m.pairs b'.store)
  year_sums same k = k.sums ∙ ap (λ x. totals (m.pairs x.store)) same

  -- a store with an admitted entry put into it keeps the order, with the sums that go with it
  pub settled_in_order : (b : Book S) → Kept m b → (x : S) (u : Totals) (q : ℕ) (e : Entry) → m.pairs x ≡ updated (m.pairs b.store) q e
      → u ≡ totals (updated (m.pairs b.store) q e) → m.reach x ≡ m.reach b.store → first_failing (admitted (sheet_of m b) q e) ≡ None
      → InOrder (sheet_over m x b.case b.year) u
  settled_in_order b k x u q e is sum same adm =
      rw (is, same) (record { sums = sum; within = λ j y stood. ⊎_elim (here j y stood) (elsewhere j y stood) (cases_eq j q); reached = k.reached })
    where
      a : Admitted (sheet_of m b) q e
      a = is_admitted (sheet_of m b) q e adm

      here : (j : ℕ) (y : Entry) → updated (m.pairs b.store) q e j ≡ Some y → j ≡ q → (j < quarters b.year) × (within_limits b.case y ≡ true)
      here j y stood at =
          let is : Some e ≡ Some y = sym (with_at_here (m.pairs b.store) q (Some e)) ∙ ap (updated (m.pairs b.store) q e) (sym at) ∙ stood in
          let entry : e ≡ y = cc in
          (omega (arith, at, a.below), ap (within_limits b.case) (sym entry) ∙ a.fits)

      elsewhere : (j : ℕ) (y : Entry) → updated (m.pairs b.store) q e j ≡ Some y → (j ≡ q → ⊥) → (j < quarters b.year) × (within_limits b.case y ≡ true)
      elsewhere j y stood apart = k.within j y (sym (with_at_elsewhere (m.pairs b.store) q (Some e) j apart) ∙ stood)

  -- a put of an admitted entry within the reach is refused only where there is no room
  pub put_told : (b : Book S) → Kept m b → (q : ℕ) (e : Entry) (p : PutRefusal)
      → Some (put_refusal_number p) ≡ put_refusal (m.reach b.store) (m.capacity b.store) (m.pairs b.store) q
      → first_failing (admitted (sheet_of m b) q e) ≡ None → tally (m.pairs b.store) (m.reach b.store) ≤ m.capacity b.store
      → first_failing (room_at (sheet_of m b) q) ≡ Some (told (put_refused p))
  put_told b k q e OutOfReach h adm fit =
      let below = (is_admitted (sheet_of m b) q e adm).below in
      let reached = k.reached in
      absurd (let z : ⊥ = grind (arith, nat_tests) in z)
  put_told b k q e NoRoom h adm fit = grind (arith, nat_tests)

  -- the sums with an admitted entry that is new at its quarter
  pub new_sums : (b : Book S) → Kept m b → (q : ℕ) (e : Entry) (u : Totals) → u ≡ with_entry b.sums.totals e → m.pairs b.store q ≡ None
      → first_failing (admitted (sheet_of m b) q e) ≡ None → u ≡ totals (updated (m.pairs b.store) q e)
  new_sums b k q e u sum none adm =
      sum ∙ ap (λ (t : Totals). with_entry t e) k.sums ∙ sym (totals_added (m.pairs b.store) q e (admitted_within (sheet_of m b) q e adm) none)
