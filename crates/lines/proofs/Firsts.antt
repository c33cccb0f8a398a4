-- The first bad place, and cases of an option.
use Rattle.std.proofs.Common.{◌≡◌, ℕ, ◌<◌, ◌⊎◌, Some, None, Option, refl, inl, inr, ⊎_elim}
use Rattle.std.proofs.lemmas.Bool.{cases_order}
use Rattle.lines.specs.Text.{First}

-- there is one first place only
pub first_same : (Bad : ℕ → Type 0) (i j : ℕ) → First Bad i → First Bad j → i ≡ j
first_same Bad i j f g =
    ⊎_elim
    (λ same. same)
    (λ apart. ⊎_elim (λ (l : i < j). absurd (g.before i l f.here)) (λ (l : j < i). absurd (f.before j l g.here)) apart)
    (cases_order i j)

pub none_or_some : {A : Type 0} (o : Option A) → (o ≡ None) ⊎ ((x : A) × (o ≡ Some x))
none_or_some None = inl refl
none_or_some (Some x) = inr (x, refl)
