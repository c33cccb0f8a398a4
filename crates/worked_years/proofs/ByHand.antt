-- The listed years are right: one test that is computed over the whole list, and one proof that what passes it is right.
use Rattle.std.proofs.Common.{◌≡◌, ℕ, Bool, true, false, not, ◌&&◌, eqb, List, [], ◌∷◌, ℤ, pos, negsuc, ◌+ℤ◌, sym, refl, ap, ◌∙◌, subst, arith}
use Rattle.std.specs.List.{AllByRecursion}
use Rattle.std.proofs.lemmas.Bool.{and_parts, eqb-true, eq-eqb}
use Rattle.figures.specs.declared.figures.Figures.{Figures}
use Rattle.sums.specs.declared.totals.Totals.{Totals}
use Rattle.sums.specs.Year.{totals}
use Rattle.figures.specs.Figures.{figures_of, total_draw, share, remainder}
use Rattle.figures.specs.Laws.{ImportEven}
use Rattle.worked_years.specs.Postings.{pairs_of, apart, list_totals}
use Rattle.worked_years.specs.Years.{Listed, AsTold, Right, years, YearsRight}
use Rattle.worked_years.proofs.Lists.{year_of_list}

abbrev same_integer : ℤ → ℤ → Bool
same_integer (pos m) (pos n) = eqb m n
same_integer (pos m) (negsuc n) = false
same_integer (negsuc m) (pos n) = false
same_integer (negsuc m) (negsuc n) = eqb m n

false_is_not_true : {P : Type 0} → false ≡ true → P
false_is_not_true h = absurd (let z : ◌≡◌ {A = ℕ} 0 1 = cc in omega arith)

integers_equal : (x y : ℤ) → same_integer x y ≡ true → x ≡ y
integers_equal (pos m) (pos n) h = ap pos (eqb-true m n h)
integers_equal (pos m) (negsuc n) h = false_is_not_true h
integers_equal (negsuc m) (pos n) h = false_is_not_true h
integers_equal (negsuc m) (negsuc n) h = ap negsuc (eqb-true m n h)

itself : (x : ℤ) → same_integer x x ≡ true
itself (pos n) = eq-eqb n n refl
itself (negsuc n) = eq-eqb n n refl

told : (b : Bool) (x y : ℤ) → same_integer x y ≡ b → AsTold b (x ≡ y)
told true x y h = integers_equal x y h
told false x y h = λ e. false_is_not_true (sym h ∙ ap (same_integer x) (sym e) ∙ itself x)

abbrev same_answer : Bool → Bool → Bool
same_answer true b = b
same_answer false b = not b

answers_equal : (a b : Bool) → same_answer a b ≡ true → a ≡ b
answers_equal true true h = refl
answers_equal true false h = sym h
answers_equal false true h = h
answers_equal false false h = refl

abbrev same_figures : Figures → Figures → Bool
same_figures r s =
    same_integer r.loss s.loss
    && (eqb r.nettable s.nettable && (eqb r.levied s.levied && (eqb r.fund_direct s.fund_direct
    && (eqb r.fund_stored s.fund_stored && (eqb r.fund_all s.fund_all && (eqb r.zero_direct s.zero_direct
    && (eqb r.zero_stored s.zero_stored && (eqb r.foreign s.foreign && eqb r.loose s.loose))))))))

figures_equal : (r s : Figures) → same_figures r s ≡ true → r ≡ s
figures_equal r s h =
    let loss = and_parts (same_integer r.loss s.loss) _ h in
    let nettable = and_parts (eqb r.nettable s.nettable) _ loss.1 in
    let levied = and_parts (eqb r.levied s.levied) _ nettable.1 in
    let fund_direct = and_parts (eqb r.fund_direct s.fund_direct) _ levied.1 in
    let fund_stored = and_parts (eqb r.fund_stored s.fund_stored) _ fund_direct.1 in
    let fund_all = and_parts (eqb r.fund_all s.fund_all) _ fund_stored.1 in
    let zero_direct = and_parts (eqb r.zero_direct s.zero_direct) _ fund_all.1 in
    let zero_stored = and_parts (eqb r.zero_stored s.zero_stored) _ zero_direct.1 in
    let foreign = and_parts (eqb r.foreign s.foreign) (eqb r.loose s.loose) zero_stored.1 in
    λ i. record {
      nettable = eqb-true r.nettable s.nettable nettable.0 i;
      loss = integers_equal r.loss s.loss loss.0 i;
      levied = eqb-true r.levied s.levied levied.0 i;
      fund_direct = eqb-true r.fund_direct s.fund_direct fund_direct.0 i;
      fund_stored = eqb-true r.fund_stored s.fund_stored fund_stored.0 i;
      fund_all = eqb-true r.fund_all s.fund_all fund_all.0 i;
      zero_direct = eqb-true r.zero_direct s.zero_direct zero_direct.0 i;
      zero_stored = eqb-true r.zero_stored s.zero_stored zero_stored.0 i;
      foreign = eqb-true r.foreign s.foreign foreign.0 i;
      loose = eqb-true r.loose s.loose foreign.1 i;
    }

-- the test of one year: its quarters stand once each, its figures are as worked by hand, and its import adds up just where the year says so
abbrev import_answer : Totals → Figures → Bool
import_answer t r = same_integer (pos t.readings.import) (pos r.levied +ℤ pos r.nettable +ℤ r.loss)

unfoldable passes : Listed → Bool
passes l =
    apart l.postings
    && (same_figures (figures_of l.case (list_totals l.postings)) l.figures
    && same_answer (import_answer (list_totals l.postings) l.figures) l.import_even)

-- a year whose quarters stand once each is right if the sums of its list give its figures, and its import adds up just where it says so
right_by : (l : Listed) → apart l.postings ≡ true → figures_of l.case (list_totals l.postings) ≡ l.figures
    → AsTold l.import_even (ImportEven (list_totals l.postings).readings.import l.figures) → Right l
right_by l once figures told =
    let year : totals (pairs_of l.postings) ≡ list_totals l.postings = year_of_list l.postings once in (
      ap (figures_of l.case) year ∙ figures,
      subst (λ (t : Totals). AsTold l.import_even (ImportEven t.readings.import l.figures)) (sym year) told,
    )

passes_right : (l : Listed) → passes l ≡ true → Right l
unfolding passes
passes_right l h =
    let drawn : Bool = same_figures (figures_of l.case (list_totals l.postings)) l.figures in
    let even : Bool = same_answer (import_answer (list_totals l.postings) l.figures) l.import_even in
    let a = and_parts (apart l.postings) (drawn && even) h in
    let b = and_parts drawn even a.1 in
    let answer : import_answer (list_totals l.postings) l.figures ≡ l.import_even =
    answers_equal (import_answer (list_totals l.postings) l.figures) l.import_even b.1 in
    right_by l a.0 (figures_equal (figures_of l.case (list_totals l.postings)) l.figures b.0)
    (told l.import_even (pos (list_totals l.postings).readings.import) (pos l.figures.levied +ℤ pos l.figures.nettable +ℤ l.figures.loss) answer)

abbrev all_pass : List Listed → Bool
all_pass [] = true
all_pass (l ∷ ls) = passes l && all_pass ls

all_right : (ls : List Listed) → all_pass ls ≡ true → AllByRecursion Right ls
all_right [] h = tt
all_right (l ∷ ls) h = let a = and_parts (passes l) (all_pass ls) h in (passes_right l a.0, all_right ls a.1)

pub years_right : YearsRight
unfolding YearsRight passes figures_of total_draw share remainder
years_right = all_right years refl
