-- Lists of checks: which fails first.
use Rattle.std.proofs.Common.{◌≡◌, ℕ, Bool, true, false, cond, List, [], ◌∷◌, ◌++◌, Some, None, Option, sym, refl, ap, ◌∙◌}
use Rattle.book.specs.Sheet.{Check, first_failing, Sheet, Call, Told, outcome, after, checks, reply, effect, answered, left_as, refused}

-- the first of cs that fails is r: a record, so that cs and r are read off it
pub record First (cs : List Check) (r : Option (ℕ × List ℕ)) : Type 0 where
  pub is : first_failing cs ≡ r

pub no_checks : First [] None
no_checks = record { is = refl }

pub met : {b : Bool} {n : ℕ} {vs : List ℕ} {cs : List Check} {r : Option (ℕ × List ℕ)}
    → b ≡ true → First cs r → First (record { met = b; number = n; values = vs } ∷ cs) r
met {b} {n} {vs} {cs} {r} e h = record { is = ap (λ x. cond x (first_failing cs) (Some (n, vs))) e ∙ h.is }

pub fails : {b : Bool} {n : ℕ} {vs : List ℕ} {cs : List Check}
    → b ≡ false → First (record { met = b; number = n; values = vs } ∷ cs) (Some (n, vs))
fails {b} {n} {vs} {cs} e = record { is = ap (λ x. cond x (first_failing cs) (Some (n, vs))) e }

abbrev either : Option (ℕ × List ℕ) → Option (ℕ × List ℕ) → Option (ℕ × List ℕ)
either None y = y
either (Some x) y = Some x

either_by : (b : Bool) (x : ℕ × List ℕ) (u v w : Option (ℕ × List ℕ)) → u ≡ either v w → cond b u (Some x) ≡ either (cond b v (Some x)) w
either_by true x u v w h = h
either_by false x u v w h = refl

append : (fs bs : List Check) → first_failing (fs ++ bs) ≡ either (first_failing fs) (first_failing bs)
append [] bs = refl
append (c ∷ fs) bs = either_by c.met (c.number, c.values) (first_failing (fs ++ bs)) (first_failing fs) (first_failing bs) (append fs bs)

-- past checks that are all met, and at one of them that fails
pub along : (fs bs : List Check) {r : Option (ℕ × List ℕ)} → first_failing fs ≡ None → First bs r → First (fs ++ bs) r
along fs bs e h = record { is = append fs bs ∙ ap (λ x. either x (first_failing bs)) e ∙ h.is }

pub stops : (fs bs : List Check) {x : ℕ × List ℕ} → first_failing fs ≡ Some x → First (fs ++ bs) (Some x)
stops fs bs e = record { is = append fs bs ∙ ap (λ x. either x (first_failing bs)) e }

-- a call that a check refuses, and one that passes them all, as the sheet has it
pub told_refused : (s : Sheet) (c : Call) (n : ℕ) (vs : List ℕ) → First (checks s c) (Some (n, vs)) → Told s c (refused n vs) s
unfolding outcome after
told_refused s c n vs e =
    record { answer = sym (ap (λ x. answered x (reply s c)) e.is); sheet = sym (ap (λ x. left_as x (effect s c) s) e.is) }

pub told_accepted : (s : Sheet) (c : Call) → First (checks s c) None → Told s c (reply s c) (effect s c)
unfolding outcome after
told_accepted s c e =
    record { answer = sym (ap (λ x. answered x (reply s c)) e.is); sheet = sym (ap (λ x. left_as x (effect s c) s) e.is) }
