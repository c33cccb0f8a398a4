-- The slips of a slip box.
use Rattle.std.specs.Prelude.{◌≡◌, ℕ, ◌<◌, Bool, true, not, ◌&&◌, List, [], ◌∷◌, length, is_some, Some, Option, nat_lt}
use Rattle.std.specs.Option.{option_map}
use Rattle.std.specs.List.{slice_get}
use Rattle.entries.specs.declared.entry.Entry.{Entry}
use Rattle.entries.specs.Pairs.{Pairs, no_pairs, updated}
use Rattle.stores.specs.declared.slip.Slip.{Slip}

-- the pairs on a row of slips: of slips with one quarter the first counts
abbrev pub on_slips : List Slip → Pairs
on_slips [] = no_pairs
on_slips (s ∷ ss) = updated (on_slips ss) s.quarter s.entry

-- every slip's quarter is below n and on no other slip
abbrev pub one_each : ℕ → List Slip → Bool
one_each n [] = true
one_each n (s ∷ ss) = nat_lt s.quarter n && (not (is_some (on_slips ss s.quarter)) && one_each n ss)

-- the quarter on the slip at the place i
abbrev pub quarter_on : List Slip → ℕ → Option ℕ
quarter_on ss i = option_map (λ s. s.quarter) (slice_get ss i)

-- the entry on the slip at the place i
abbrev pub entry_on : List Slip → ℕ → Option Entry
entry_on ss i = option_map (λ s. s.entry) (slice_get ss i)

-- the slip of the quarter q is the one at the place i
pub record Found (ss : List Slip) (q i : ℕ) : Type 0 where
  pub within : i < length ss
  pub quarter : quarter_on ss i ≡ Some q
  pub entry : entry_on ss i ≡ on_slips ss q
  pub stands : is_some (on_slips ss q) ≡ true
