-- A list of postings and the sums of its entries.
use Rattle.std.proofs.Common.{◌≡◌, ℕ, ◌+◌, ◌<◌, true, not, ◌&&◌, ltb, List, [], ◌∷◌, ◌++◌, length, get_or, take, drop, is_some, Some, None, Option, refl, ap, ◌∙◌, add-one, arith, drop-cons}
use Rattle.std.proofs.lemmas.Bool.{and_parts, ltb-true}
use Rattle.std.proofs.lemmas.List.{take_more}
use Rattle.entries.specs.declared.entry.Entry.{Entry}
use Rattle.entries.specs.Pairs.{most_quarters, total}
use Rattle.entries.proofs.Totals.{total_none, total_added}
use Rattle.sums.specs.Sums.{with_entry}
use Rattle.sums.specs.Year.{totals}
use Rattle.sums.proofs.Years.{gather_alike}
use Rattle.worked_years.specs.declared.years.Posting.{Posting}
use Rattle.worked_years.specs.Postings.{posting, pairs_of, apart, sum_over, list_totals}

is_none : (o : Option Entry) → not (is_some o) ≡ true → o ≡ None
is_none None h = refl
is_none (Some e) h = absurd (let z : ◌≡◌ {A = ℕ} 0 1 = cc in omega arith)

-- the sum over a list whose quarters stand once each is the sum over the quarters of the year
sum_is_total : (xs : List Posting) → apart xs ≡ true → (f : Entry → ℕ) → total f (pairs_of xs) most_quarters ≡ sum_over xs f
sum_is_total [] h f = total_none most_quarters f
sum_is_total (x ∷ xs) h f =
    let a = and_parts (ltb x.quarter most_quarters) (not (is_some (pairs_of xs x.quarter)) && apart xs) h in
    let b = and_parts (not (is_some (pairs_of xs x.quarter))) (apart xs) a.1 in
    total_added most_quarters f (pairs_of xs) x.quarter x.entry (ltb-true x.quarter most_quarters a.0) (is_none (pairs_of xs x.quarter) b.0)
    ∙ ap (λ (n : ℕ). n + f x.entry) (sum_is_total xs b.1 f)

pub year_of_list : (xs : List Posting) → apart xs ≡ true → totals (pairs_of xs) ≡ list_totals xs
year_of_list xs h = gather_alike (λ f. total f (pairs_of xs) most_quarters) (sum_over xs) (sum_is_total xs h)

-- one posting more at the end
sum_over_push : (xs : List Posting) (x : Posting) (f : Entry → ℕ) → sum_over (xs ++ (x ∷ [])) f ≡ sum_over xs f + f x.entry
sum_over_push [] x f = refl
sum_over_push (y ∷ ys) x f = omega (arith, sum_over_push ys x f)

pub list_totals_push : (xs : List Posting) (x : Posting) → list_totals (xs ++ (x ∷ [])) ≡ with_entry (list_totals xs) x.entry
list_totals_push xs x = gather_alike (sum_over (xs ++ (x ∷ []))) (λ f. sum_over xs f + f x.entry) (sum_over_push xs x)

-- what stands in the place of a posting past the list's end
abbrev pub blank : Posting
blank = posting 0 (record { import = 0; feed_in = 0; drawn = 0; given = 0; storage_drawn = 0; storage_given = 0 }) 0

pub sum_over_take : (xs : List Posting) (i : ℕ) (f : Entry → ℕ) → i < length xs
    → sum_over (take (i + 1) xs) f ≡ sum_over (take i xs) f + f (get_or xs i blank).entry
sum_over_take xs i f h = ap (λ (ys : List Posting). sum_over ys f) (take_more xs i blank h) ∙ sum_over_push (take i xs) (get_or xs i blank) f

-- the postings from a place on, by the first of them
pub drop_at : (xs : List Posting) (i : ℕ) → i < length xs → drop i xs ≡ get_or xs i blank ∷ drop (i + 1) xs
drop_at xs i h = rw (add-one, drop-cons xs i blank)
