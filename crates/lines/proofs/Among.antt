-- A column among others.
use Rattle.std.proofs.Common.{eqb, map, ◌≡◌, ℕ, zero, suc, ◌+◌, ◌<◌, true, false, ◌⊎◌, List, [], ◌∷◌, ◌++◌, length, get_or, take, set, Some, None, Option, sym, refl, ap, ◌∙◌, subst, inl, inr, ⊎_elim, arith}
use Rattle.std.proofs.lemmas.Bool.{eq-eqb, ne_eqb, eqb-true, cases_Bool, both_ways, and_parts, and_from, or_cases, or_parts, or_from, not-true, not_from_false}
use Rattle.std.proofs.lemmas.Option.{none-some}
use Rattle.std.proofs.lemmas.Map.Steps.{length-le_from_distinct_below}
use Rattle.std.proofs.lemmas.List.Folds.{Any-from_list_any, list_any_at, list_any-append}
use Rattle.std.specs.List.{list_any, AllByRecursion, IsDistinct}
use Rattle.std.proofs.lemmas.List.{length-map, take_more_set, length-take-le, get_or_read_under}
use Rattle.entries.specs.declared.readings.Mark.TheVariants.{Import, FeedIn, Drawn, Given, StorageDrawn, StorageGiven}
use Rattle.lines.specs.declared.column.Column.{Column}
use Rattle.lines.specs.declared.column.Column.TheVariants.{Quarter, Value, Reading}
use Rattle.lines.specs.declared.columns.Columns.{Columns}
use Rattle.lines.specs.Columns.{names}
use Rattle.lines.specs.Names.{known, column_number, same_column, has, all_different, column_of, unless_among, new_column}

-- what holds of each of the eight columns holds of every column
pub every : (P : Column → Type 0) → P Quarter → P Value → P (Reading Import) → P (Reading FeedIn) → P (Reading Drawn) → P (Reading Given) → P (Reading StorageDrawn) → P (Reading StorageGiven) → (c : Column) → P c
every P q v import feed_in drawn given storage_drawn storage_given Quarter = q
every P q v import feed_in drawn given storage_drawn storage_given Value = v
every P q v import feed_in drawn given storage_drawn storage_given (Reading Import) = import
every P q v import feed_in drawn given storage_drawn storage_given (Reading FeedIn) = feed_in
every P q v import feed_in drawn given storage_drawn storage_given (Reading Drawn) = drawn
every P q v import feed_in drawn given storage_drawn storage_given (Reading Given) = given
every P q v import feed_in drawn given storage_drawn storage_given (Reading StorageDrawn) = storage_drawn
every P q v import feed_in drawn given storage_drawn storage_given (Reading StorageGiven) = storage_given

-- a column stands at its number
stands : (c : Column) → get_or known (column_number c) Quarter ≡ c
stands = every (λ c. get_or known (column_number c) Quarter ≡ c) refl refl refl refl refl refl refl refl

pub same_is : (c d : Column) → same_column c d ≡ true → c ≡ d
same_is c d e = sym (stands c) ∙ ap (λ n. get_or known n Quarter) (eqb-true _ _ e) ∙ stands d

is_same : (c d : Column) → c ≡ d → same_column c d ≡ true
is_same c d e = eq-eqb _ _ (ap column_number e)

not_same : (c d : Column) → (c ≡ d → ⊥) → same_column c d ≡ false
not_same c d ne = ne_eqb _ _ (λ e. ne (same_is c d (eq-eqb _ _ e)))

pub has_from : (c : Column) (ns : List Column) (i : ℕ) → i < length ns → get_or ns i Quarter ≡ c → has c ns ≡ true
has_from c ns i h e = list_any_at (λ d. same_column d c) ns i Quarter h (is_same _ c e)

pub has_at : (c : Column) (ns : List Column) → has c ns ≡ true → (i : ℕ) × (i < length ns) × (get_or ns i Quarter ≡ c)
has_at c ns h =
    let any = Any-from_list_any (λ d. same_column d c) ns h in
    (any.0, any.2, sym (get_or_read_under ns any.0 (length ns) any.1 Quarter (sym any.3) any.2 refl) ∙ same_is any.1 c any.4)

pub apart : (ns : List Column) → all_different ns ≡ true → (i j : ℕ) → i < j → j < length ns → get_or ns i Quarter ≡ get_or ns j Quarter → ⊥
apart [] d i j l h e = omega arith
apart (n ∷ ns) d zero zero l h e = omega arith
apart (n ∷ ns) d (suc i) zero l h e = omega arith
apart (n ∷ ns) d zero (suc j) l h e = both_ways (has n ns) (not-true _ (and_parts _ _ d).0) (has_from n ns j (omega arith) (sym e))
apart (n ∷ ns) d (suc i) (suc j) l h e = apart ns (and_parts _ _ d).1 i j (omega arith) (omega arith) e

has_push : (c : Column) (ns : List Column) (m : Column) → has c ns ≡ false → same_column m c ≡ false → has c (ns ++ m ∷ []) ≡ false
has_push c ns m h s = list_any-append (λ d. same_column d c) ns (m ∷ []) ∙ or_from _ _ h (or_from _ _ s refl)

-- one more column that is not among the others
pub different_push : (ns : List Column) (m : Column) → all_different ns ≡ true → has m ns ≡ false → all_different (ns ++ m ∷ []) ≡ true
different_push [] m d h = refl
different_push (n ∷ ns) m d h =
    let p = or_parts (same_column n m) (has m ns) h in
    let other : same_column m n ≡ false = not_same m n (λ e. both_ways (same_column n m) p.0 (is_same n m (sym e))) in
    and_from _ _ (not_from_false _ (has_push n ns m (not-true _ (and_parts _ _ d).0) other)) (different_push ns m (and_parts _ _ d).1 p.1)

-- the numbers of columns are below eight
below_eight : (ns : List Column) (k : ℕ) → list_any (eqb k) (map column_number ns) ≡ true → k < 8
below_eight [] k h = absurd (both_ways false refl h)
below_eight (n ∷ ns) k h =
    let few = every (λ c. column_number c < 8) (omega arith) (omega arith) (omega arith) (omega arith) (omega arith) (omega arith) (omega arith) (omega arith) n in
    ⊎_elim
    (λ (e : eqb k (column_number n) ≡ true). let is = eqb-true k (column_number n) e in omega arith)
    (λ (later : list_any (eqb k) (map column_number ns) ≡ true). below_eight ns k later)
    (or_cases _ _ h)

-- the numbers of different columns are different
other_numbers : (c : Column) (ns : List Column) → has c ns ≡ false → AllByRecursion (λ k. eqb (column_number c) k ≡ false) (map column_number ns)
other_numbers c [] h = tt
other_numbers c (n ∷ ns) h =
    let p = or_parts (same_column n c) (has c ns) h in
    (ne_eqb _ _ (λ e. both_ways (same_column n c) p.0 (eq-eqb _ _ (sym e))), other_numbers c ns p.1)

distinct_numbers : (ns : List Column) → all_different ns ≡ true → IsDistinct eqb (map column_number ns)
unfolding IsDistinct
distinct_numbers [] d = tt
distinct_numbers (n ∷ ns) d = let p = and_parts _ _ d in (other_numbers n ns (not-true _ p.0), distinct_numbers ns p.1)

-- with a column that is not among them there are fewer than all
room : (c : Column) (ns : List Column) → all_different ns ≡ true → has c ns ≡ false → length ns < 8
room c ns d h =
    let few = length-le_from_distinct_below (map column_number (c ∷ ns)) 8 (distinct_numbers (c ∷ ns) (and_from _ _ (not_from_false _ h) d)) (below_eight (c ∷ ns)) in
    omega (arith, length-map ns column_number)

-- a column that is not among those before it
pub unless_some : (before : List Column) (o : Option Column) (c : Column) → unless_among before o ≡ Some c → (o ≡ Some c) × (has c before ≡ false)
unless_some before None c e = absurd (none-some c e)
unless_some before (Some d) c e =
    ⊎_elim
    (λ (h : has d before ≡ true). absurd (none-some c (rw (h, unless_among) at e)))
    (λ (h : has d before ≡ false).
    let is : Some d ≡ Some c = rw (h, unless_among) at e in
    let same : d ≡ c = cc in
    (is, subst (λ x. has x before ≡ false) same h))
    (cases_Bool (has d before))

-- no column, or one that is among those before it
pub unless_none : (before : List Column) (o : Option Column) → unless_among before o ≡ None → (o ≡ None) ⊎ ((c : Column) × (o ≡ Some c) × (has c before ≡ true))
unless_none before None e = inl refl
unless_none before (Some c) e =
    ⊎_elim
    (λ (h : has c before ≡ true). inr (c, refl, h))
    (λ (h : has c before ≡ false). absurd (none-some c (sym (rw (h, unless_among) at e))))
    (cases_Bool (has c before))

-- a column that is not among some, which stand in eight places
module _ (cs : Columns) (long : length cs.names ≡ 8) (f : List ℕ) (c : Column) (some : new_column (names cs) f ≡ Some c) where
  new : has c (names cs) ≡ false
  new = (unless_some (names cs) (column_of f) c some).1

  pub room_left : cs.count < 8
  room_left = let few = cs.few in omega (arith, room c (names cs) cs.distinct new, length-take-le cs.count cs.names (omega arith))

  pub different_more : all_different (take (cs.count + 1) (set cs.names cs.count c)) ≡ true
  different_more =
      let there : cs.count < length cs.names = let l = room_left in omega arith in
      rw (take_more_set cs.names cs.count c there) (different_push (names cs) c cs.distinct new)
