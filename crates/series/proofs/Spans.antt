-- Spans: searched by `find_map`, and one quarter at a time. Assumes nothing.
use Rattle.std.proofs.Common.{◌≡◌, ℕ, suc, ◌+◌, ◌-◌, ◌<◌, ◌≤◌, IsTrue, Some, None, Option, IfSome, MatchOption, IsSomeAnd, sym, ap, ◌∙◌, subst, ⊎_elim, arith}
use Rattle.std.specs.Fn.{Called}
use Rattle.std.specs.Option.{option_map}
use Rattle.std.specs.Iterator.Runs.{Run, AllItemsGive, IsFirstToGive}
use Rattle.std.proofs.iter.Yields.{nat_range_steps}
use Rattle.std.proofs.iter.runs.Sources.{range_runs}
use Rattle.std.proofs.lemmas.Bool.{cases_lt}
use denote.Param.Members.{Mut}
use Rattle.series.specs.declared.fault.Fault.{Fault}
use Rattle.series.specs.Faults.{FaultFor}
use Rattle.series.specs.Gaps.{Whole, LowestFault}
use Rattle.series.specs.Totals.{sum_from}

-- where a span is whole up to a fault, that fault is the lowest
pub lowest_here : (faults : ℕ → Option Fault) (from to q : ℕ) (f : Fault) → FaultFor q (faults q) → faults q ≡ Some f → from ≤ q → q < to → Whole faults from q → LowestFault faults from to (Some f)
lowest_here faults from to q f named here above below whole =
    let at : f.quarter ≡ q = (subst (FaultFor q) here named).0 in
    (omega arith, omega arith, ap faults at ∙ here, λ k lo hi. whole k lo (omega arith))

-- one quarter more without a fault
pub whole_more : (faults : ℕ → Option Fault) (from q next : ℕ) → next ≡ q + 1 → Whole faults from q → faults q ≡ None → Whole faults from next
whole_more faults from q next up below here k lo hi =
    ⊎_elim (λ h. below k lo h) (λ h. let e : k ≡ q = omega arith in ap faults e ∙ here) (cases_lt k q)

-- one number more in a sum
pub sum_more : (f : ℕ → ℕ) (from q next s x : ℕ) → next ≡ q + 1 → from ≤ q → s ≡ sum_from from (q - from) f → f q ≡ x → s + x ≡ sum_from from (next - from) f
sum_more f from q next s x up le e here =
    let n : next - from ≡ suc (q - from) = omega arith in
    let at : from + (q - from) ≡ q = omega arith in
    let last : f (from + (q - from)) ≡ x = ap f at ∙ here in
    let step : sum_from from (suc (q - from)) f ≡ s + x = cc in
    sym (ap (λ k. sum_from from k f) n ∙ step)

-- what is said of an item is said of the number that it is
of_item : (o : Option ℕ) (n : ℕ) (P : ℕ → Type 0) → option_map (λ y. y) o ≡ Some n → IfSome o P → P n
of_item None n P e h = let z : ◌≡◌ {A = ℕ} 0 1 = cc in absurd (omega arith)
of_item (Some x) n P e h = let same : x ≡ n = cc in subst P same h

some_item : (o : Option ℕ) (P : ℕ → Type 0) → IsSomeAnd o P → IfSome o P
some_item None P h = absurd h
some_item (Some x) P h = h

-- what `find_map` gives over a span is its lowest fault, where the function that it calls tells the fault of each quarter
pub lowest_found : {F : Type 0} {g : Mut F (ℕ × Unit {0}) (Option Fault)} {f : F} (faults : ℕ → Option Fault) (p : Run nat_range_steps) (o : Option Fault)
    → ((q : ℕ) → FaultFor q (faults q))
    → ((q : ℕ) (r : Option Fault) (f' : F) → Called g f (q, tt) r f' → (f' ≡ f) × (r ≡ faults q))
    → MatchOption o (IsTrue p.whole × AllItemsGive p g f None) (λ y. (i : ℕ) × (i < p.len) × (p.len ≡ i + 1) × IsFirstToGive p g f (Some y) None i)
    → LowestFault faults p.from.start p.from.end o
lowest_found {g = g} {f = f} faults p None asked tells all = λ q lo hi.
    let k = q - p.from.start in
    let runs = range_runs p p.seen in
    let at : option_map (λ y. y) (p.at k) ≡ Some q = runs.3 k (omega (arith, runs.1 all.0)) ∙ ap Some (omega arith) in
    sym (tells q None f (of_item (p.at k) q (λ x. Called g f (x, tt) None f) at (all.1 (λ a r f' k. (tells a.0 r f' k).0) k))).1
lowest_found {g = g} {f = f} faults p (Some y) asked tells found =
    let from = p.from.start in
    let i = found.0 in
    let runs = range_runs p p.seen in
    let given = found.3 (λ a r f' k. (tells a.0 r f' k).0) in
    let at : (k : ℕ) → k ≤ i → option_map (λ y. y) (p.at k) ≡ Some (from + k) = λ k le. runs.3 k (omega (arith, found.1)) in
    let here : faults (from + i) ≡ Some y = sym (tells (from + i) _ f (of_item (p.at i) (from + i) (λ x. Called g f (x, tt) (Some y) f) (at i (omega arith)) (some_item (p.at i) _ given.0))).1 in
    lowest_here faults from p.from.end (from + i) y (asked (from + i)) here (omega arith) (omega (arith, runs.0, found.1)) (λ q lo hi.
    let k = q - from in
    let at_q : option_map (λ y. y) (p.at k) ≡ Some q = at k (omega arith) ∙ ap Some (omega arith) in
    sym (tells q None f (of_item (p.at k) q (λ x. Called g f (x, tt) None f) at_q (some_item (p.at k) _ (given.1 k (omega arith))))).1)
