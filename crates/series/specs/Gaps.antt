-- The first gap of a span. Assumes nothing.
use Rattle.std.specs.Prelude.{◌≡◌, ℕ, ◌<◌, ◌≤◌, ◌++◌, List, Some, None, Ok, Err, Option, Result, codes, decimal}
use Rattle.series.specs.declared.fault.Fault.{Fault}
use Rattle.series.specs.declared.gap.SpanRefusal.{SpanRefusal}
use Rattle.series.specs.declared.gap.SpanRefusal.TheVariants.{Quarter}

-- the number of a refusal of a span
abbrev pub refusal_number : SpanRefusal → ℕ
refusal_number Quarter = 4

-- how a refusal prints
abbrev pub refusal_text : SpanRefusal → List ℕ
refusal_text e = codes "refused " ++ decimal (refusal_number e)

-- every quarter from `from` on and before `to` has its item
abbrev pub Whole : (ℕ → Option Fault) → ℕ → ℕ → Type 0
Whole faults from to = (q : ℕ) → from ≤ q → q < to → faults q ≡ None

-- the fault at the lowest faulty quarter of a span, or none
abbrev pub LowestFault : (ℕ → Option Fault) → ℕ → ℕ → Option Fault → Type 0
LowestFault faults from to None = Whole faults from to
LowestFault faults from to (Some f) = (from ≤ f.quarter) × (f.quarter < to) × (faults f.quarter ≡ Some f) × Whole faults from f.quarter

-- a span that ends after 35,136 is refused; else its lowest fault is told
abbrev pub FirstGap : (ℕ → Option Fault) → ℕ → ℕ → Result (Option Fault) SpanRefusal → Type 0
FirstGap faults from to (Err e) = (35136 < to) × (refusal_number e ≡ 4)
FirstGap faults from to (Ok o) = (to ≤ 35136) × LowestFault faults from to o
