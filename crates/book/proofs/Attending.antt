-- What an inner step of a post or an amendment does, in the terms of store and sums, and that a call with such a step answers as the sheet does.
use Rattle.std.proofs.Common.{◌≡◌, ℕ, ◌<◌, ◌≤◌, Bool, true, false, cond, not, eqb, ltb, leb, List, [], ◌∷◌, is_some, Some, None, Ok, Err, Option, Result, sym, refl, ap, ◌∙◌, subst, ⊎_elim, arith}
use Rattle.std.proofs.lemmas.Bool.{lt-ltb, le-ltb, leb-true, eqb-true, eq-eqb}
use Rattle.entries.specs.declared.entry.Entry.{Entry}
use Rattle.entries.specs.declared.readings.Mark.{Mark}
use Rattle.entries.specs.Marks.{mark_number}
use Rattle.entries.specs.Pairs.{Pairs, most_quarters, updated, without, tally}
use Rattle.sums.specs.declared.totals.Totals.{Totals}
use Rattle.sums.specs.Sums.{past, Added, NeverAdded}
use Rattle.sums.specs.Year.{totals}
use Rattle.sums.specs.Sums.{with_entry}
use Rattle.sums.proofs.Years.{totals_added, totals_removed, totals_balanced}
use Rattle.stores.specs.declared.store.Store.{Ghosts}
use Rattle.stores.specs.Puts.{put_refusal}
use Rattle.book.specs.declared.book.Book.{Book}
use Rattle.book.specs.declared.refusal.Refusal.{Refusal}
use Rattle.book.specs.declared.refusal.Refusal.TheVariants.{Case, Year, Reach, Quarter, Reading, Value, Standing, Absent, Sum, Full, Series}
use Rattle.book.specs.Order.{InOrder}
use Rattle.book.specs.Refusals.{refusal_number, refusal_values, told}
use Rattle.book.specs.Calendar.{quarters}
use Rattle.entries.specs.Entries.{within_limits}
use Rattle.entries.proofs.Totals.{with_at_here, with_at_elsewhere}
use Rattle.std.proofs.lemmas.Bool.{cases_eq}
use Rattle.book.specs.Sheet.{Sheet, Check, Call, Outcome, post, amend, accepted, refused, Told, no_mark, first_failing, checks, admitted, standing, effect, reply, written}
use Rattle.book.specs.Books.{sheet_of, Kept, Attends, outcome_of}
use Rattle.book.proofs.Checks.{First, no_checks, met, fails, along, told_refused, told_accepted}
use Rattle.book.proofs.Keeping.{Admitted, is_admitted, admitted_within}

-- nothing of the book has changed
pub record Untouched {S : Type 0} (b b' : Book S) : Type 0 where
  pub store : b'.store ≡ b.store
  pub sums : b'.sums ≡ b.sums
  pub case : b'.case ≡ b.case
  pub year : b'.year ≡ b.year

-- the store has e at q, with every other pair as it was, and the book its case and year
pub record Stored {S : Type 0} (m : Ghosts S) (b : Book S) (q : ℕ) (e : Entry) (b' : Book S) : Type 0 where
  pub free : put_refusal (m.reach b.store) (m.capacity b.store) (m.pairs b.store) q ≡ None
  pub reach : m.reach b'.store ≡ m.reach b.store
  pub capacity : m.capacity b'.store ≡ m.capacity b.store
  pub pairs : m.pairs b'.store ≡ updated (m.pairs b.store) q e
  pub case : b'.case ≡ b.case
  pub year : b'.year ≡ b.year

-- a put into the store refuses with this number
abbrev pub Unstored : {S : Type 0} → Ghosts S → Book S → ℕ → ℕ → Type 0
Unstored m b q n = put_refusal (m.reach b.store) (m.capacity b.store) (m.pairs b.store) q ≡ Some n

-- an entry is entered at a quarter that has none, if the sums and the store take it
abbrev pub Entered : {S : Type 0} → Ghosts S → Book S → ℕ → Entry → Result (Unit {0}) Refusal → Book S → Type 0
Entered m b q e (Ok x) b' = (m.pairs b.store q ≡ None) × Added b.sums.totals e b'.sums.totals × Stored m b q e b'
Entered m b q e (Err Standing) b' = (is_some (m.pairs b.store q) ≡ true) × Untouched b b'
Entered m b q e (Err (Sum k)) b' = (m.pairs b.store q ≡ None) × (past b.sums.totals e ≡ Some k) × Untouched b b'
Entered m b q e (Err Full) b' = (m.pairs b.store q ≡ None) × (past b.sums.totals e ≡ None) × Unstored m b q 10 × Untouched b b'
Entered m b q e (Err Quarter) b' = Unstored m b q 4 × Untouched b b'
Entered m b q e (Err Case) b' = ⊥
Entered m b q e (Err Year) b' = ⊥
Entered m b q e (Err Reach) b' = ⊥
Entered m b q e (Err (Reading k)) b' = ⊥
Entered m b q e (Err Value) b' = ⊥
Entered m b q e (Err Absent) b' = ⊥
Entered m b q e (Err (Series s f)) b' = ⊥

-- over whatever year the sums t are of: they take e in the place of old, and become u
abbrev pub Replaced : Totals → Entry → Entry → Totals → Type 0
Replaced t old e u =
    (p : Pairs) (k : ℕ) → t ≡ totals p → k < most_quarters → p k ≡ Some old → (past (totals (without p k)) e ≡ None) × (u ≡ totals (updated p k e))

-- over whatever year the sums t are of: without old they would pass the limit at the mark n with e
abbrev pub Overfull : Totals → Entry → Entry → Mark → Type 0
Overfull t old e n = (p : Pairs) (k : ℕ) → t ≡ totals p → k < most_quarters → p k ≡ Some old → past (totals (without p k)) e ≡ Some n

-- e takes the place of the entry old that stands at q, if the sums and the store take it
abbrev pub Exchanged : {S : Type 0} → Ghosts S → Book S → ℕ → Entry → Entry → Result (Unit {0}) Refusal → Book S → Type 0
Exchanged m b q old e (Ok x) b' = Replaced b.sums.totals old e b'.sums.totals × Stored m b q e b'
Exchanged m b q old e (Err (Sum k)) b' = Overfull b.sums.totals old e k × Untouched b b'
Exchanged m b q old e (Err Absent) b' = NeverAdded old b.sums.totals × Untouched b b'
Exchanged m b q old e (Err Full) b' = Unstored m b q 10 × Untouched b b'
Exchanged m b q old e (Err Quarter) b' = Unstored m b q 4 × Untouched b b'
Exchanged m b q old e (Err Standing) b' = ⊥
Exchanged m b q old e (Err Case) b' = ⊥
Exchanged m b q old e (Err Year) b' = ⊥
Exchanged m b q old e (Err Reach) b' = ⊥
Exchanged m b q old e (Err (Reading k)) b' = ⊥
Exchanged m b q old e (Err Value) b' = ⊥
Exchanged m b q old e (Err (Series s f)) b' = ⊥

-- a book that nothing touched is the same book
pub same_book : {S : Type 0} (b b' : Book S) → Untouched b b' → b' ≡ b
same_book b b' u = λ i. record { store = u.store i; sums = u.sums i; case = u.case i; year = u.year i }

-- a call answers as the sheet does where the book was kept, which it then is again; a refusal leaves the book itself
pub record AttendsKept {S : Type 0} (m : Ghosts S) (b : Book S) (c : Call) (o : Outcome) (b' : Book S) : Type 0 where
  pub told : Kept m b → Told (sheet_of m b) c o (sheet_of m b')
  pub kept : Kept m b → Kept m b'
  pub refused : (n : ℕ) (vs : List ℕ) → o ≡ refused n vs → b' ≡ b

-- and so of every book, each of which is kept
pub attends_of : {S : Type 0} {m : Ghosts S} {b b' : Book S} {c : Call} {o : Outcome} → Kept m b → AttendsKept m b c o b' → Attends m b c o b'
attends_of k a = record { told = a.told k; kept = a.kept k; refused = a.refused }

pub never_some : {A : Type 0} (x : A) → Some x ≡ None → ⊥
never_some x e = let z : ◌≡◌ {A = ℕ} 0 1 = cc in omega arith

true_is_not_false : {P : Type 0} → true ≡ false → P
true_is_not_false e = absurd (let z : ◌≡◌ {A = ℕ} 0 1 = cc in omega arith)

-- a check on a mark
pub no_mark_met : (n : ℕ) {o : Option Mark} {cs : List Check} {r : Option (ℕ × List ℕ)} → o ≡ None → First cs r → First (no_mark o n ∷ cs) r
no_mark_met n {o} {cs} {r} e h = subst (λ (x : Option Mark). First (no_mark x n ∷ cs) r) (sym e) (met refl h)

pub no_mark_fails : (n : ℕ) {o : Option Mark} (cs : List Check) (k : Mark) → o ≡ Some k → First (no_mark o n ∷ cs) (Some (n, mark_number k ∷ []))
no_mark_fails n {o} cs k e = subst (λ (x : Option Mark). First (no_mark x n ∷ cs) (Some (n, mark_number k ∷ []))) (sym e) (fails refl)

-- what a put's refusal, or its lack, says
abbrev put_by : Bool → Bool → Bool → Option ℕ
put_by a b c = cond a (Some 4) (cond b None (cond c (Some 10) None))

unput_4 : (a b c : Bool) → put_by a b c ≡ Some 4 → a ≡ true
unput_4 true b c h = refl
unput_4 false true c h = absurd (never_some 4 (sym h))
unput_4 false false true h = absurd (let z : ◌≡◌ {A = ℕ} 10 4 = cc in omega arith)
unput_4 false false false h = absurd (never_some 4 (sym h))

unput_10 : (a b c : Bool) → put_by a b c ≡ Some 10 → c ≡ true
unput_10 true b c h = absurd (let z : ◌≡◌ {A = ℕ} 4 10 = cc in omega arith)
unput_10 false true c h = absurd (never_some 10 (sym h))
unput_10 false false true h = refl
unput_10 false false false h = absurd (never_some 10 (sym h))

put_10 : (a b c : Bool) → b ≡ false → put_by a b c ≡ None → c ≡ false
put_10 true b c e h = absurd (never_some 4 h)
put_10 false true c e h = true_is_not_false e
put_10 false false true e h = absurd (never_some 10 h)
put_10 false false false e h = refl

stood_10 : (a b c : Bool) → b ≡ true → put_by a b c ≡ Some 10 → ⊥
stood_10 true b c e h = let z : ◌≡◌ {A = ℕ} 4 10 = cc in omega arith
stood_10 false true c e h = never_some 10 (sym h)
stood_10 false false c e h = true_is_not_false (sym e)

module _ (reach capacity : ℕ) (p : Pairs) (q : ℕ) where
  -- a put in the place of an entry that stands asks for no room
  pub stood_never_full : (old : Entry) → p q ≡ Some old → put_refusal reach capacity p q ≡ Some 10 → ⊥
  stood_never_full old stood h = stood_10 (leb reach q) (is_some (p q)) (eqb (tally p reach) capacity) (ap is_some stood) h

  pub beyond_reach : put_refusal reach capacity p q ≡ Some 4 → reach ≤ q
  beyond_reach h = leb-true reach q (unput_4 (leb reach q) (is_some (p q)) (eqb (tally p reach) capacity) h)

  pub at_capacity : put_refusal reach capacity p q ≡ Some 10
      → tally p reach ≡ capacity
  at_capacity h = eqb-true (tally p reach) capacity (unput_10 (leb reach q) (is_some (p q)) (eqb (tally p reach) capacity) h)

  pub has_room : p q ≡ None → tally p reach ≤ capacity
      → put_refusal reach capacity p q ≡ None → tally p reach < capacity
  has_room none fit h =
      let apart : tally p reach ≡ capacity → ⊥ = λ e.
      true_is_not_false (sym (eq-eqb (tally p reach) capacity e) ∙ put_10 (leb reach q) (is_some (p q)) (eqb (tally p reach) capacity) (ap is_some none) h) in
      omega arith

-- an admitted entry at a quarter keeps the sheet in order, with the sums that go with it
pub written_in_order : (s : Sheet) (t u : Totals) (q : ℕ) (e : Entry) → InOrder s t → Admitted s q e → u ≡ totals (updated s.pairs q e) → InOrder (written s q e) u
written_in_order s t u q e k a sum =
    record {
      sums = sum;
      within = λ j x stood. ⊎_elim (here j x stood) (elsewhere j x stood) (cases_eq j q);
      reached = k.reached;
    }
  where
    here : (j : ℕ) (x : Entry) → updated s.pairs q e j ≡ Some x → j ≡ q → (j < quarters s.year) × (within_limits s.case x ≡ true)
    here j x stood same =
        let is : Some e ≡ Some x = sym (with_at_here s.pairs q (Some e)) ∙ ap (updated s.pairs q e) (sym same) ∙ stood in
        let entry : e ≡ x = cc in
        (omega (arith, same, a.below), ap (within_limits s.case) (sym entry) ∙ a.fits)

    elsewhere : (j : ℕ) (x : Entry) → updated s.pairs q e j ≡ Some x → (j ≡ q → ⊥) → (j < quarters s.year) × (within_limits s.case x ≡ true)
    elsewhere j x stood apart = k.within j x (sym (with_at_elsewhere s.pairs q (Some e) j apart) ∙ stood)

pub not_refused : (n : ℕ) (vs : List ℕ) → accepted ≡ refused n vs → ⊥
not_refused n vs e = let z : ◌≡◌ {A = ℕ} 0 1 = cc in omega arith

module _ {S : Type 0} (m : Ghosts S) (b b' : Book S) (c : Call) where
  pub attends_refused : (y : Refusal) → Untouched b b' → (Kept m b → First (checks (sheet_of m b) c) (Some (told y)))
      → AttendsKept m b c (refused (refusal_number y) (refusal_values y)) b'
  attends_refused y u h =
      let same : b' ≡ b = same_book b b' u in
      record {
        told = λ k. subst (λ (x : Book S). Told (sheet_of m b) c (refused (refusal_number y) (refusal_values y)) (sheet_of m x)) (sym same)
            (told_refused (sheet_of m b) c (refusal_number y) (refusal_values y) (h k));
        kept = λ k. subst (λ (x : Book S). Kept m x) (sym same) k;
        refused = λ n vs e. same;
      }

  pub attends_accepted : accepted ≡ reply (sheet_of m b) c
      → (Kept m b → First (checks (sheet_of m b) c) None × (sheet_of m b' ≡ effect (sheet_of m b) c) × InOrder (effect (sheet_of m b) c) b'.sums.totals)
      → AttendsKept m b c accepted b'
  attends_accepted e h =
      record {
        told = λ k. let t = told_accepted (sheet_of m b) c (h k).0 in record { answer = e ∙ t.answer; sheet = (h k).1 ∙ t.sheet };
        kept = λ k. subst (λ (s : Sheet). InOrder s b'.sums.totals) (sym (h k).1) (h k).2;
        refused = λ n vs r. absurd (not_refused n vs r);
      }

  -- a refusal that a kept book cannot give
  pub attends_never : (y : Refusal) → Untouched b b' → (Kept m b → ⊥) → AttendsKept m b c (refused (refusal_number y) (refusal_values y)) b'
  attends_never y u h =
      record { told = λ k. absurd (h k); kept = λ k. absurd (h k); refused = λ n vs e. same_book b b' u }

module _ {S : Type 0} (m : Ghosts S) (b b' : Book S) (q : ℕ) (e : Entry) where
  abbrev s : Sheet
  s = sheet_of m b

  stored_sheet : Stored m b q e b' → sheet_of m b' ≡ written s q e
  stored_sheet w = λ i. record { reach = w.reach i; capacity = w.capacity i; case = w.case i; year = w.year i; pairs = w.pairs i }

  module _ (adm : first_failing (admitted s q e) ≡ None) where
    in_most : q < most_quarters
    in_most = admitted_within s q e adm

    never_beyond : Unstored m b q 4 → Kept m b → ⊥
    never_beyond h k = omega (arith, beyond_reach s.reach s.capacity s.pairs q h, (is_admitted s q e adm).below, k.reached)

    -- where the store holds no more than its capacity, a post answers as the sheet
    pub entered_attends : tally s.pairs s.reach ≤ s.capacity → (r : Result (Unit {0}) Refusal) → Entered m b q e r b' → AttendsKept m b (post q e) (outcome_of r) b'
    entered_attends fit (Ok x) h =
        attends_accepted m b b' (post q e) refl (λ k.
        let free : past (totals s.pairs) e ≡ None = ap (λ (t : Totals). past t e) (sym k.sums) ∙ h.1.0 in
        let room : ltb (standing s) s.capacity ≡ true =
        lt-ltb (standing s) s.capacity (has_room s.reach s.capacity s.pairs q h.0 fit h.2.free) in
        let sum : b'.sums.totals ≡ totals (updated s.pairs q e) =
        h.1.1 ∙ ap (λ (t : Totals). with_entry t e) k.sums ∙ sym (totals_added s.pairs q e in_most h.0) in (
          along (admitted s q e) _ adm (met (ap (λ o. not (is_some o)) h.0) (no_mark_met 9 free (met room no_checks))),
          stored_sheet h.2,
          written_in_order s b.sums.totals b'.sums.totals q e k (is_admitted s q e adm) sum,
        ))
    entered_attends fit (Err Standing) h =
        attends_refused m b b' (post q e) Standing h.1 (λ k. along (admitted s q e) _ adm (fails (ap not h.0)))
    entered_attends fit (Err (Sum n)) h =
        attends_refused m b b' (post q e) (Sum n) h.2 (λ k.
        let over : past (totals s.pairs) e ≡ Some n = ap (λ (t : Totals). past t e) (sym k.sums) ∙ h.1 in
        along (admitted s q e) _ adm (met (ap (λ o. not (is_some o)) h.0) (no_mark_fails 9 _ n over)))
    entered_attends fit (Err Full) h =
        attends_refused m b b' (post q e) Full h.3 (λ k.
        let free : past (totals s.pairs) e ≡ None = ap (λ (t : Totals). past t e) (sym k.sums) ∙ h.1 in
        let full = at_capacity s.reach s.capacity s.pairs q h.2 in
        along (admitted s q e) _ adm (met (ap (λ o. not (is_some o)) h.0) (no_mark_met 9 free (fails (le-ltb (standing s) s.capacity (omega (arith, full)))))))
    entered_attends fit (Err Quarter) h = attends_never m b b' (post q e) Quarter h.1 (never_beyond h.0)
    entered_attends fit (Err Case) h = absurd h
    entered_attends fit (Err Year) h = absurd h
    entered_attends fit (Err Reach) h = absurd h
    entered_attends fit (Err (Reading n)) h = absurd h
    entered_attends fit (Err Value) h = absurd h
    entered_attends fit (Err Absent) h = absurd h
    entered_attends fit (Err (Series x f)) h = absurd h

    -- an amendment of the entry that stands answers as the sheet
    module _ (old : Entry) (stood : s.pairs q ≡ Some old) where
      never_full : Unstored m b q 10 → Kept m b → ⊥
      never_full h k = stood_never_full s.reach s.capacity s.pairs q old stood h

      pub exchanged_attends : (r : Result (Unit {0}) Refusal) → Exchanged m b q old e r b' → AttendsKept m b (amend q e) (outcome_of r) b'
      exchanged_attends (Ok x) h =
          attends_accepted m b b' (amend q e) refl (λ k.
          let f = h.0 s.pairs q k.sums in_most stood in (
            along (admitted s q e) _ adm (met (ap is_some stood) (no_mark_met 9 f.0 no_checks)),
            stored_sheet h.1,
            written_in_order s b.sums.totals b'.sums.totals q e k (is_admitted s q e adm) f.1,
          ))
      exchanged_attends (Err (Sum n)) h =
          attends_refused m b b' (amend q e) (Sum n) h.1 (λ k.
          along (admitted s q e) _ adm (met (ap is_some stood) (no_mark_fails 9 _ n (h.0 s.pairs q k.sums in_most stood))))
      exchanged_attends (Err Absent) h =
          attends_never m b b' (amend q e) Absent h.1 (λ k.
          h.0 (totals (without s.pairs q)) (totals_balanced (without s.pairs q), totals_removed s.pairs q old in_most stood ∙ sym k.sums))
      exchanged_attends (Err Full) h = attends_never m b b' (amend q e) Full h.1 (never_full h.0)
      exchanged_attends (Err Quarter) h = attends_never m b b' (amend q e) Quarter h.1 (never_beyond h.0)
      exchanged_attends (Err Standing) h = absurd h
      exchanged_attends (Err Case) h = absurd h
      exchanged_attends (Err Year) h = absurd h
      exchanged_attends (Err Reach) h = absurd h
      exchanged_attends (Err (Reading n)) h = absurd h
      exchanged_attends (Err Value) h = absurd h
      exchanged_attends (Err (Series x f)) h = absurd h
