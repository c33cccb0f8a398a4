-- What a change list has.
use Rattle.std.specs.Prelude.{◌≡◌, ℕ, ◌+◌, ◌<◌, ◌≤◌, cond, List, [], ◌∷◌, length, Some, None, Err, Option, nat_le, slice_index_or}
use Rattle.std.specs.Option.{option_or}
use Rattle.std.specs.List.{slice_get}
use Rattle.meters.specs.declared.change.Change.{Change}
use Rattle.series.specs.declared.fault.Cause.TheVariants.{Missing}
use Rattle.series.specs.Faults.{own_fault}
use Rattle.series.specs.Limits.{Value, value_of}

-- the quarter of the row at a place of the list (0 past its end)
abbrev pub quarter_at : List Change → ℕ → ℕ
quarter_at rows i = (slice_index_or rows i record { quarter = 0; value = 0 }).quarter

-- from the place i on, every row's quarter is above q
abbrev pub NoneHoldsFrom : ℕ → List Change → ℕ → Type 0
NoneHoldsFrom i rows q = (k : ℕ) → i ≤ k → k < length rows → q < quarter_at rows k

-- the last row in the list whose quarter is at most q, or none where every row's is above q
abbrev pub LastThatHolds : List Change → ℕ → Option Change → Type 0
LastThatHolds rows q None = NoneHoldsFrom 0 rows q
LastThatHolds rows q (Some c) = (i : ℕ) × (slice_get rows i ≡ Some c) × (c.quarter ≤ q) × NoneHoldsFrom (i + 1) rows q

-- the same row, computed: a later row that holds goes before this one
abbrev pub held : List Change → ℕ → Option Change
held [] q = None
held (c ∷ later) q = option_or (held later q) (cond (nat_le c.quarter q) (Some c) None)

-- what is computed is the last row that holds
abbrev pub HeldIsLast : List Change → ℕ → Type 0
HeldIsLast rows q = LastThatHolds rows q (held rows q)

-- what the row that holds, or none, says of the quarter q
abbrev pub held_value : Option Change → ℕ → Value
held_value None q = Err (own_fault Missing q)
held_value (Some c) q = value_of c.value q

-- the row that holds at q tells the value
abbrev pub change_value : List Change → ℕ → Value
change_value rows q = held_value (held rows q) q
