-- How many pairs there can be below a quarter.
use Rattle.std.specs.Prelude.{◌≡◌, ℕ, zero, suc, ◌<◌, None}
use Rattle.std.proofs.Common.{ap, ◌∙◌, inl, inr, arith}
use Rattle.std.proofs.lemmas.Bool.{cases_eq}
use Rattle.entries.specs.Pairs.{Pairs, no_pairs, or_zero, total, tally}
use Rattle.entries.proofs.Totals.{total_none}
use Rattle.stores.specs.StoreLaws.{one_at_most, tally_le}

-- and fewer where a quarter has none
pub tally_lt : (p : Pairs) (q n : ℕ) → q < n → p q ≡ None → tally p n < n
unfolding total
tally_lt p q zero h none = absurd (omega arith)
tally_lt p q (suc n) h none =
    elim (cases_eq n q) [
      | inl e ↦ omega (arith, tally_le p n, ap (λ k. or_zero (λ _. 1) (p k)) e, ap (or_zero (λ _. 1)) none)
      | inr ne ↦ omega (arith, tally_lt p q n (omega arith) none, one_at_most (p n))
    ]

-- where no pair stands none is counted
pub tally_empty : (p : Pairs) (n : ℕ) → p ≡ no_pairs → tally p n ≡ 0
tally_empty p n e = ap (λ r. tally r n) e ∙ total_none n (λ _. 1)
