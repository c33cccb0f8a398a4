-- What reading the line of names comes to.
use Rattle.std.proofs.Common.{◌≡◌, ℕ, zero, suc, ◌+◌, ◌<◌, ◌≤◌, true, false, ◌⊎◌, List, [], ◌∷◌, ◌++◌, length, get_or, drop, Some, None, Ok, Err, Result, sym, refl, ap, ◌∙◌, subst, inl, inr, ⊎_elim, add-zero, zero-add, arith, length-drop}
use Rattle.std.proofs.lemmas.List.{ext_get_or, get_or_append_left, get_or_push, length_push, drop_more}
use Rattle.std.proofs.lemmas.List.Recursion.{and_at}
use Rattle.std.proofs.lemmas.Bool.{cases_lt, cases_Bool, cond_both, lt-ltb, le-ltb, eqb-true, and_parts, and_cases, both_ways, or_right}
use Rattle.std.proofs.lemmas.Option.{none-some}
use Rattle.lines.specs.declared.column.Column.{Column}
use Rattle.lines.specs.declared.column.Column.TheVariants.{Quarter}
use Rattle.lines.specs.declared.misread.Misread.{Misread}
use Rattle.lines.specs.declared.misread.Misread.TheVariants.{Name, Field}
use Rattle.lines.specs.Text.{fields, of_line, agrees, same_bytes, First}
use Rattle.lines.specs.Names.{written, known, needed, has, all_different, has_all, written_as, column_of, new_column, columns_from, columns_in, Names, Unknown, Repeated, BadName, Misnames}
use Rattle.lines.proofs.Among.{every, has_from, has_at, apart, different_push, unless_some, unless_none}
use Rattle.lines.proofs.Firsts.{first_same, none_or_some}

agrees_at : (f : List ℕ) (i : ℕ) (cs : List ℕ) → agrees f i cs ≡ true → (j : ℕ) → j < length cs → get_or f (i + j) 0 ≡ get_or cs j 0
agrees_at f i [] a j h = absurd (omega arith)
agrees_at f i (c ∷ cs) a zero h = ap (λ n. get_or f n 0) (add-zero i) ∙ eqb-true _ _ (and_parts _ _ a).0
agrees_at f i (c ∷ cs) a (suc j) h =
    let on : i + suc j ≡ i + 1 + j = omega arith in
    ap (λ n. get_or f n 0) on ∙ agrees_at f (i + 1) cs (and_parts _ _ a).1 j (omega arith)

same_bytes_are : (f cs : List ℕ) → same_bytes f cs ≡ true → f ≡ cs
same_bytes_are f cs s =
    let long : length f ≡ length cs = eqb-true _ _ (and_parts _ _ s).0 in
    ext_get_or 0 f cs long (λ i h. ap (λ n. get_or f n 0) (sym (zero-add i)) ∙ agrees_at f 0 cs (and_parts _ _ s).1 i (omega arith))

written_as_is : (cs : List Column) (f : List ℕ) (c : Column) → written_as cs f ≡ Some c → f ≡ written c
written_as_is [] f c e = absurd (none-some c e)
written_as_is (d ∷ cs) f c e =
    ⊎_elim
    (λ (s : same_bytes f (written d) ≡ true). let is : Some d ≡ Some c = rw (s, written_as) at e in let same : d ≡ c = cc in same_bytes_are f (written d) s ∙ ap written same)
    (λ (s : same_bytes f (written d) ≡ false). written_as_is cs f c (rw (s, written_as) at e))
    (cases_Bool (same_bytes f (written d)))

column_written : (c : Column) → column_of (written c) ≡ Some c
column_written = every (λ c. column_of (written c) ≡ Some c) refl refl refl refl refl refl refl refl

written_same : (c d : Column) → written c ≡ written d → c ≡ d
written_same c d e =
    let same : Some c ≡ Some d = sym (column_written c) ∙ ap column_of e ∙ column_written d in
    cc

unknown : (f : List ℕ) → column_of f ≡ None → Unknown f
unknown f none c e = none-some c (sym none ∙ ap column_of e ∙ column_written c)

-- a column that keeps the others from being whole
lacks_one : (cs ns : List Column) → has_all cs ns ≡ false → (c : Column) × (has c cs ≡ true) × (has c ns ≡ false)
lacks_one [] ns w = absurd (both_ways true w refl)
lacks_one (c ∷ cs) ns w =
    ⊎_elim
    (λ (h : has c ns ≡ false). (c, has_from c (c ∷ cs) 0 (omega arith) refl, h))
    (λ (h : has_all cs ns ≡ false). let later = lacks_one cs ns h in (later.0, or_right _ _ later.1, later.2))
    (and_cases (has c ns) (has_all cs ns) w)

-- each column of a whole is there
whole_has : (cs ns : List Column) → has_all cs ns ≡ true → (c : Column) → has c cs ≡ true → has c ns ≡ true
whole_has cs ns w c h =
    let at = has_at c cs h in
    subst (λ d. has d ns ≡ true) at.2 (and_at (λ ds. has_all ds ns) (λ d. has d ns) refl (λ _ _. refl) cs at.0 Quarter at.1 w)

-- the first fields are the names of the columns ns, all different
record Named (fs : List (List ℕ)) (ns : List Column) : Type 0 where
  within : length ns ≤ length fs
  each : (i : ℕ) → i < length ns → get_or fs i [] ≡ written (get_or ns i Quarter)
  once : all_different ns ≡ true

module _ (fs : List (List ℕ)) (ns : List Column) (named : Named fs ns) where
  names_good : (i : ℕ) → i < length ns → BadName fs i → ⊥
  names_good i h (inl b) =
      ⊎_elim
      (λ (u : Unknown (get_or fs i [])). u (get_or ns i Quarter) (named.each i h))
      (λ (r : Repeated fs i).
      let l = r.1 in
      apart ns named.once r.0 i l h (written_same _ _ (sym (named.each r.0 (omega arith)) ∙ r.2 ∙ named.each i h)))
      b.1
  names_good i h (inr b) = let w = named.within in let e = b.0 in omega arith

  first_here : BadName fs (length ns) → (i : ℕ) × (length ns + 1 ≡ i + 1) × First (BadName fs) i
  first_here b = (length ns, refl, record { here = b; before = names_good })

  named_no : (c : Column) → has c ns ≡ false → (j : ℕ) → j < length ns → get_or fs j [] ≡ written c → ⊥
  named_no c h j l e = both_ways (has c ns) h (has_from c ns j l (written_same _ _ (sym (named.each j l) ∙ e)))

  named_stops : (f : List ℕ) → get_or fs (length ns) [] ≡ f → new_column ns f ≡ None → Unknown (get_or fs (length ns) []) ⊎ Repeated fs (length ns)
  named_stops f here none =
      ⊎_elim
      (λ (no : column_of f ≡ None). inl (subst Unknown (sym here) (unknown f no)))
      (λ (again : (c : Column) × (column_of f ≡ Some c) × (has c ns ≡ true)).
      let at = has_at again.0 ns again.2 in
      inr (at.0, at.1, named.each at.0 at.1 ∙ ap written at.2 ∙ sym (written_as_is known f again.0 again.1) ∙ sym here))
      (unless_none ns (column_of f) none)

  named_more : (c : Column) → length ns < length fs → get_or fs (length ns) [] ≡ written c → has c ns ≡ false → Named fs (ns ++ c ∷ [])
  named_more c h e new = record {
    within = omega (arith, length_push ns c);
    each = λ i l. ⊎_elim
        (λ (lt : i < length ns). named.each i lt ∙ ap written (sym (get_or_append_left ns (c ∷ []) Quarter i lt)))
        (λ (ge : length ns ≤ i).
        let is : length ns ≡ i = omega (arith, length_push ns c) in
        ap (λ n. get_or fs n []) (sym is) ∙ e ∙ ap written (sym (get_or_push ns c Quarter i is)))
        (cases_lt i (length ns));
    once = different_push ns c named.once new;
  }

-- what the fields fs come to as names
abbrev Outcome : List (List ℕ) → Result (List Column) Misread → Type 0
Outcome fs (Ok ns) = Named fs ns × (length fs ≡ length ns) × (has_all needed ns ≡ true)
Outcome fs (Err (Name k)) = (i : ℕ) × (k ≡ i + 1) × First (BadName fs) i
Outcome fs (Err (Field k)) = ⊥

drop_parts : (n : ℕ) (xs : List (List ℕ)) (y : List ℕ) (ys : List (List ℕ)) → drop n xs ≡ y ∷ ys → (n < length xs) × (get_or xs n [] ≡ y) × (drop (n + 1) xs ≡ ys)
drop_parts n xs y ys e =
    let h : n < length xs = omega (arith, length-drop n xs, ap length e) in
    let both = sym (drop_more xs n [] h) ∙ e in
    (h, cc, cc)

tells : (all : List (List ℕ)) (seen : List Column) (fs : List (List ℕ)) → Named all seen → drop (length seen) all ≡ fs → Outcome all (columns_from seen fs)
tells all seen [] named left =
    let long : length all ≡ length seen = let w = named.within in omega (arith, length-drop (length seen) all, ap length left) in
    cond_both (has_all needed seen) (Ok seen) (Err (Name (length seen + 1))) (Outcome all)
    (λ w. (named, long, w))
    (λ w.
    let lacks = lacks_one needed seen w in
    first_here all seen named (inr (sym long, (lacks.0, lacks.1, λ j l. named_no all seen named lacks.0 lacks.2 j (omega arith)))))
tells all seen (f ∷ fs) named left =
    let parts = drop_parts (length seen) all f fs left in
    ⊎_elim
    (λ (none : new_column seen f ≡ None). rw (none, columns_from) (first_here all seen named (inl (parts.0, named_stops all seen named f parts.1 none))))
    (λ (some : (c : Column) × (new_column seen f ≡ Some c)).
    let c = some.0 in
    let new = unless_some seen (column_of f) c some.1 in
    rw (some.1, columns_from)
    (tells all (seen ++ c ∷ []) fs (named_more all seen named c parts.0 (parts.1 ∙ written_as_is known f c new.0) new.1) (ap (λ n. drop n all) (length_push seen c) ∙ parts.2)))
    (none_or_some (new_column seen f))

-- what an answer says of the line of names
abbrev pub Told : List ℕ → Result (List Column) Misread → Type 0
Told line (Ok ns) = Names line ns
Told line (Err e) = Misnames line e

module _ (line : List ℕ) where
  told_within : length line ≤ 200 → (r : Result (List Column) Misread) → Outcome (fields line) r → Told line r
  told_within short (Ok ns) o = record { short = short; as_many = o.1; each = o.0.each; once = o.0.once; whole = o.2 }
  told_within short (Err (Name k)) o = record { short = short; place = o.0; column = o.1; first = o.2 }
  told_within short (Err (Field k)) o = absurd o

  pub columns_told : Told line (columns_in line)
  unfolding columns_in
  columns_told =
      ⊎_elim
      (λ (l : 200 < length line). rw (lt-ltb 200 (length line) l) (refl, l))
      (λ (l : length line ≤ 200).
      rw (le-ltb 200 (length line) l)
      (told_within l (columns_from [] (fields line)) (tells (fields line) [] (fields line) (record { within = omega arith; each = λ i h. absurd (omega arith); once = refl }) refl)))
      (cases_lt 200 (length line))

  no_bad : (ns : List Column) → Names line ns → (i : ℕ) → BadName (fields line) i → ⊥
  no_bad ns n i (inl b) =
      let l = b.0 in
      let m = n.as_many in
      names_good (fields line) ns (record { within = omega arith; each = n.each; once = n.once }) i (omega arith) (inl b)
  no_bad ns n i (inr b) =
      let lacking = b.1 in
      let at = has_at lacking.0 ns (whole_has needed ns n.whole lacking.0 lacking.1) in
      let l = at.1 in
      let m = n.as_many in
      lacking.2 at.0 (omega arith) (n.each at.0 at.1 ∙ ap written at.2)

  -- one answer only is told
  same_told : (a b : Result (List Column) Misread) → Told line a → Told line b → a ≡ b
  same_told (Ok ms) (Ok ns) p q =
      let long : length ms ≡ length ns = sym p.as_many ∙ q.as_many in
      ap (λ x. Ok x) (ext_get_or Quarter ms ns long (λ i h. written_same _ _ (sym (p.each i h) ∙ q.each i (omega arith))))
  same_told (Ok ms) (Err (Name k)) p q = absurd (no_bad ms p q.place q.first.here)
  same_told (Ok ms) (Err (Field k)) p q = let s = p.short in let l = q.1 in absurd (omega arith)
  same_told (Err (Name k)) (Ok ns) p q = absurd (no_bad ns q p.place p.first.here)
  same_told (Err (Name k)) (Err (Name j)) p q =
      let same = first_same (BadName (fields line)) p.place q.place p.first q.first in
      ap (λ n. Err (Name n)) (omega (arith, p.column, q.column, same))
  same_told (Err (Name k)) (Err (Field j)) p q = let s = p.short in let l = q.1 in absurd (omega arith)
  same_told (Err (Field k)) (Ok ns) p q = let s = q.short in let l = p.1 in absurd (omega arith)
  same_told (Err (Field k)) (Err (Name j)) p q = let s = q.short in let l = p.1 in absurd (omega arith)
  same_told (Err (Field k)) (Err (Field j)) p q = ap (λ n. Err (Field n)) (p.0 ∙ sym q.0)

  -- what is told of a line is what is read
  pub columns_only : (a : Result (List Column) Misread) → Told line a → columns_in line ≡ a
  columns_only a told = same_told (columns_in line) a columns_told told

-- the same of what the line comes to, as the code finds it
module _ (line : List ℕ) where
  pub names_told : (ns : List Column) → of_line line (columns_from [] (fields line)) ≡ Ok ns → Names line ns
  unfolding columns_in
  names_told ns e = subst (Told line) e (columns_told line)

  pub misnames_told : (e : Misread) → of_line line (columns_from [] (fields line)) ≡ Err e → Misnames line e
  unfolding columns_in
  misnames_told e is = subst (Told line) is (columns_told line)

  pub names_only : (ns : List Column) → Names line ns → of_line line (columns_from [] (fields line)) ≡ Ok ns
  unfolding columns_in
  names_only ns told = columns_only line (Ok ns) told
