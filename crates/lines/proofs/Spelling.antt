-- What reading a line of values comes to.
use Rattle.std.proofs.Common.{◌≡◌, ℕ, zero, suc, ◌+◌, ◌<◌, ◌≤◌, true, false, cond, not, eqb, List, [], ◌∷◌, length, get_or, drop, Some, None, Ok, Err, Result, sym, refl, ap, ◌∙◌, subst, inl, inr, ⊎_elim, arith}
use Rattle.std.proofs.lemmas.List.{drop_more}
use Rattle.std.proofs.lemmas.Bool.{cases_lt, cases_Bool, lt-ltb, le-ltb, and_parts, or_parts, or_from, not-true, both_ways, eq-eqb}
use Rattle.entries.specs.declared.entry.Entry.{Entry}
use Rattle.entries.specs.declared.readings.Mark.{Mark}
use Rattle.entries.specs.declared.readings.Mark.TheVariants.{Import, FeedIn, Drawn, Given, StorageDrawn, StorageGiven}
use Rattle.entries.specs.declared.readings.Readings.{Readings}
use Rattle.entries.specs.Marks.{mark_number, reading}
use Rattle.lines.specs.declared.column.Column.{Column}
use Rattle.lines.specs.declared.column.Column.TheVariants.{Quarter, Value, Reading}
use Rattle.lines.specs.declared.misread.Misread.{Misread}
use Rattle.lines.specs.declared.misread.Misread.TheVariants.{Name, Field}
use Rattle.lines.specs.Text.{fields, of_line, First}
use Rattle.lines.specs.Names.{same_column, has, all_different}
use Rattle.lines.specs.Values.{number_of, first_value}
use Rattle.lines.specs.Entries.{amount, readings_by, with_reading, with_amount, nothing, row_from, Spells, BadField, Tells}
use Rattle.lines.proofs.Among.{same_is}
use Rattle.lines.proofs.Firsts.{none_or_some}

-- what a row has in a column
abbrev at : Column → ℕ × Entry → ℕ
at c row = amount c row.0 row.1

reading_by : (m : Mark) (f : Mark → ℕ) → reading m (readings_by f) ≡ f m
reading_by Import f = refl
reading_by FeedIn f = refl
reading_by Drawn f = refl
reading_by Given f = refl
reading_by StorageDrawn f = refl
reading_by StorageGiven f = refl

at_nothing : (c : Column) → at c nothing ≡ 0
at_nothing Quarter = refl
at_nothing Value = refl
at_nothing (Reading m) = reading_by m (λ _. 0)

reading_with : (m k : Mark) (v : ℕ) (r : Readings) → reading k (with_reading m v r) ≡ cond (eqb (mark_number m) (mark_number k)) v (reading k r)
reading_with m k v r = reading_by k (λ j. cond (eqb (mark_number m) (mark_number j)) v (reading j r))

at_there : (c : Column) (v : ℕ) (row : ℕ × Entry) → at c (with_amount c v row) ≡ v
at_there Quarter v row = refl
at_there Value v row = refl
at_there (Reading m) v row = reading_with m m v row.1.readings ∙ rw (eq-eqb (mark_number m) (mark_number m) refl)

at_other : (c d : Column) (v : ℕ) (row : ℕ × Entry) → same_column c d ≡ false → at d (with_amount c v row) ≡ at d row
at_other Quarter Quarter v row s = absurd (both_ways true s refl)
at_other Quarter Value v row s = refl
at_other Quarter (Reading m) v row s = refl
at_other Value Quarter v row s = refl
at_other Value Value v row s = absurd (both_ways true s refl)
at_other Value (Reading m) v row s = refl
at_other (Reading m) Quarter v row s = refl
at_other (Reading m) Value v row s = refl
at_other (Reading m) (Reading k) v row s = reading_with m k v row.1.readings ∙ rw s

same_row : (p q : ℕ × Entry) → ((c : Column) → at c p ≡ at c q) → p ≡ q
same_row p q h = λ i. (
  h Quarter i,
  record {
    readings = record {
      import = h (Reading Import) i;
      feed_in = h (Reading FeedIn) i;
      drawn = h (Reading Drawn) i;
      given = h (Reading Given) i;
      storage_drawn = h (Reading StorageDrawn) i;
      storage_given = h (Reading StorageGiven) i;
    };
    value = h Value i;
  },
)

-- the fields fs have gone to the columns ns, and every other column is as in the row before
record Filled (ns : List Column) (fs : List (List ℕ)) (row filled : ℕ × Entry) : Type 0 where
  as_many : length fs ≡ length ns
  each : (i : ℕ) → i < length ns → number_of (get_or fs i []) ≡ Some (at (get_or ns i Quarter) filled)
  others : (c : Column) → has c ns ≡ false → at c filled ≡ at c row

-- what filling the columns ns comes to, from column k on
abbrev Outcome : ℕ → List Column → List (List ℕ) → ℕ × Entry → Result (ℕ × Entry) Misread → Type 0
Outcome k ns fs row (Ok filled) = Filled ns fs row filled
Outcome k ns fs row (Err (Name j)) = ⊥
Outcome k ns fs row (Err (Field j)) = (i : ℕ) × (j ≡ k + i) × First (BadField (length ns) fs) i

-- the first column is bad
stops : (k n : ℕ) (fs : List (List ℕ)) → BadField n fs 0 → (i : ℕ) × (k ≡ k + i) × First (BadField n fs) i
stops k n fs bad = (0, omega arith, record { here = bad; before = λ j h b. omega arith })

-- a column that is good stands before the others
module _ (n : ℕ) (f : List ℕ) (fs : List (List ℕ)) (v : ℕ) (good : number_of f ≡ Some v) where
  bad_more : (i : ℕ) → BadField n fs i → BadField (suc n) (f ∷ fs) (suc i)
  bad_more i (inl malformed) = inl (let h = malformed.0 in omega arith, malformed.1)
  bad_more i (inr (inl lacking)) = inr (inl (omega arith, omega arith))
  bad_more i (inr (inr many)) = inr (inr (omega arith, omega arith))

  bad_less : (i j : ℕ) → ((j : ℕ) → j < i → BadField n fs j → ⊥) → j < suc i → BadField (suc n) (f ∷ fs) j → ⊥
  bad_less i zero before h (inl malformed) = let z : ◌≡◌ {A = ℕ} 0 1 = cc (good, malformed.1) in omega arith
  bad_less i zero before h (inr (inl lacking)) = omega arith
  bad_less i zero before h (inr (inr many)) = omega arith
  bad_less i (suc j) before h (inl malformed) = before j (omega arith) (inl (let l = malformed.0 in omega arith, malformed.1))
  bad_less i (suc j) before h (inr (inl lacking)) = before j (omega arith) (inr (inl (omega arith, omega arith)))
  bad_less i (suc j) before h (inr (inr many)) = before j (omega arith) (inr (inr (omega arith, omega arith)))

  first_more : (i : ℕ) → First (BadField n fs) i → First (BadField (suc n) (f ∷ fs)) (suc i)
  first_more i first = record { here = bad_more i first.here; before = λ j. bad_less i j first.before }

each_more : (n : Column) (ns : List Column) (f : List ℕ) (fs : List (List ℕ)) (row : ℕ × Entry) → number_of f ≡ Some (at n row) → ((i : ℕ) → i < length ns → number_of (get_or fs i []) ≡ Some (at (get_or ns i Quarter) row)) → (i : ℕ) → i < length (n ∷ ns) → number_of (get_or (f ∷ fs) i []) ≡ Some (at (get_or (n ∷ ns) i Quarter) row)
each_more n ns f fs row first rest zero h = first
each_more n ns f fs row first rest (suc i) h = rest i (omega arith)

fill_one : (k : ℕ) (n : Column) (ns : List Column) (f : List ℕ) (fs : List (List ℕ)) (row : ℕ × Entry) (v : ℕ) → number_of f ≡ Some v → has n ns ≡ false → (r : Result (ℕ × Entry) Misread) → Outcome (k + 1) ns fs (with_amount n v row) r → Outcome k (n ∷ ns) (f ∷ fs) row r
fill_one k n ns f fs row v good new (Ok filled) rest =
    let mine : at n filled ≡ v = rest.others n new ∙ at_there n v row in
    record {
      as_many = ap suc rest.as_many;
      each = each_more n ns f fs filled (good ∙ ap (λ x. Some x) (sym mine)) rest.each;
      others = λ c h. let p = or_parts (same_column n c) (has c ns) h in rest.others c p.1 ∙ at_other n c v row p.0;
    }
fill_one k n ns f fs row v good new (Err (Name j)) rest = rest
fill_one k n ns f fs row v good new (Err (Field j)) rest = (suc rest.0, let e = rest.1 in omega arith, first_more (length ns) f fs v good rest.0 rest.2)

tells : (k : ℕ) (ns : List Column) (fs : List (List ℕ)) (row : ℕ × Entry) → all_different ns ≡ true → Outcome k ns fs row (row_from k ns fs row)
tells k [] [] row d = record { as_many = refl; each = λ i h. absurd (omega arith); others = λ c h. refl }
tells k [] (f ∷ fs) row d = stops k 0 (f ∷ fs) (inr (inr (omega arith, omega arith)))
tells k (n ∷ ns) [] row d = stops k (length (n ∷ ns)) [] (inr (inl (omega arith, omega arith)))
tells k (n ∷ ns) (f ∷ fs) row d =
    let p = and_parts (not (has n ns)) (all_different ns) d in
    ⊎_elim
    (λ (e : number_of f ≡ None). rw (e, row_from) (stops k (length (n ∷ ns)) (f ∷ fs) (inl (omega arith, e))))
    (λ (s : (v : ℕ) × (number_of f ≡ Some v)).
    let row' = with_amount n s.0 row in
    rw (s.1, row_from) (fill_one k n ns f fs row s.0 s.1 (not-true _ p.0) (row_from (k + 1) ns fs row') (tells (k + 1) ns fs row' p.1)))
    (none_or_some (number_of f))

fills : (k : ℕ) (ns : List Column) (fs : List (List ℕ)) (row filled : ℕ × Entry) → Filled ns fs row filled → row_from k ns fs row ≡ Ok filled
fills k [] [] row filled h = ap (λ r. Ok r) (same_row row filled (λ c. sym (h.others c refl)))
fills k [] (f ∷ fs) row filled h = absurd (omega (arith, h.as_many))
fills k (n ∷ ns) [] row filled h = absurd (omega (arith, h.as_many))
fills k (n ∷ ns) (f ∷ fs) row filled h =
    let v = at n filled in
    let rest : Filled ns fs (with_amount n v row) filled = record {
      as_many = omega (arith, h.as_many);
      each = λ i l. h.each (suc i) (omega arith);
      others = λ c new. ⊎_elim
          (λ (s : same_column n c ≡ true). let P : Column → Type 0 = λ c. at c filled ≡ at c (with_amount n v row) in subst P (same_is n c s) (sym (at_there n v row)))
          (λ (s : same_column n c ≡ false). h.others c (or_from _ _ s new) ∙ sym (at_other n c v row s))
          (cases_Bool (same_column n c));
    } in
    rw (h.each 0 (omega arith), row_from) (fills (k + 1) ns fs (with_amount n v row) filled rest)

module _ (ns : List Column) (line : List ℕ) where
  told_within : length line ≤ 200 → (r : Result (ℕ × Entry) Misread) → Outcome 1 ns (fields line) nothing r → Tells ns line r
  told_within short (Ok row) o = record { short = short; as_many = o.as_many; each = o.each; absent = λ c h. o.others c h ∙ at_nothing c }
  told_within short (Err (Name j)) o = o
  told_within short (Err (Field j)) o = inr (record { short = short; place = o.0; column = let e = o.1 in omega arith; first = o.2 })

  told : all_different ns ≡ true → Tells ns line (of_line line (row_from 1 ns (fields line) nothing))
  told d =
      ⊎_elim
      (λ (l : 200 < length line). rw (lt-ltb 200 (length line) l) (inl (refl, l)))
      (λ (l : length line ≤ 200). rw (le-ltb 200 (length line) l) (told_within l (row_from 1 ns (fields line) nothing) (tells 1 ns (fields line) nothing d)))
      (cases_lt 200 (length line))

  pub spells_told : (r : Result (ℕ × Entry) Misread) → all_different ns ≡ true → of_line line (row_from 1 ns (fields line) nothing) ≡ r → Tells ns line r
  spells_told r d e = subst (Tells ns line) e (told d)

  pub spells_only : (r : Result (ℕ × Entry) Misread) → of_line line (row_from 1 ns (fields line) nothing) ≡ r → (q : ℕ) (e : Entry) → Spells ns line q e → r ≡ Ok (q, e)
  spells_only r is q e s =
      let row : Filled ns (fields line) nothing (q, e) = record { as_many = s.as_many; each = s.each; others = λ c h. s.absent c h ∙ sym (at_nothing c) } in
      sym is ∙ rw (le-ltb 200 (length line) s.short) (fills 1 ns (fields line) nothing (q, e) row)

-- the first column that is left is bad
pub row_stops : (k i : ℕ) (ns : List Column) (fs : List (List ℕ)) (row : ℕ × Entry) (e : Misread) → i < length ns → first_value k fs ≡ Err e → row_from k (drop i ns) fs row ≡ Err e
row_stops k i ns fs row e h bad = rw (drop_more ns i Quarter h) (rw (bad, row_from))
