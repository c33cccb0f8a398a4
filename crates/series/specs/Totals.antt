-- The energy of a span. Assumes nothing.
use Rattle.std.specs.Prelude.{◌≡◌, ℕ, zero, suc, ◌+◌, ◌-◌, Some, None, Ok, Err, Option, Result}
use Rattle.series.specs.declared.fault.Fault.{Fault}
use Rattle.series.specs.declared.total.NoTotal.{NoTotal}
use Rattle.series.specs.declared.total.NoTotal.TheVariants.{Refused, Gap}
use Rattle.series.specs.Gaps.{FirstGap}
use Rattle.series.specs.Limits.{Reading}

-- the energies of a reading; a fault has none
abbrev pub energies : Reading → ℕ × ℕ
energies (Ok e) = e
energies (Err f) = (0, 0)

-- the sum of f over n numbers from `from` on
abbrev pub sum_from : ℕ → ℕ → (ℕ → ℕ) → ℕ
sum_from from zero f = 0
sum_from from (suc n) f = sum_from from n f + f (from + n)

-- why there is no total: the span is refused, or it has a first gap
abbrev pub WhyNoTotal : (ℕ → Option Fault) → ℕ → ℕ → NoTotal → Type 0
WhyNoTotal faults from to (Refused e) = FirstGap faults from to (Err e)
WhyNoTotal faults from to (Gap f) = FirstGap faults from to (Ok (Some f))

-- the energy taken and given in a span that has no gap
abbrev pub SpanEnergy : (ℕ → Option Fault) → (ℕ → Reading) → ℕ → ℕ → Result (ℕ × ℕ) NoTotal → Type 0
SpanEnergy faults readings from to (Err e) = WhyNoTotal faults from to e
SpanEnergy faults readings from to (Ok t) = FirstGap faults from to (Ok None) × (t.0 ≡ sum_from from (to - from) (λ q. (energies (readings q)).0)) × (t.1 ≡ sum_from from (to - from) (λ q. (energies (readings q)).1))
