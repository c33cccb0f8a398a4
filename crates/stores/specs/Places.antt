-- The places of a year table.
use Rattle.std.specs.Prelude.{List, None, Option, slice_index_or}
use Rattle.entries.specs.declared.entry.Entry.{Entry}
use Rattle.entries.specs.Pairs.{Pairs}

-- the pairs in a row of places: a quarter's entry is in the place of its number
abbrev pub in_places : List (Option Entry) → Pairs
in_places places q = slice_index_or places q None
