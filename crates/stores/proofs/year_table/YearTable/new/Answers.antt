use Rattle.std.proofs.Common.{vec_items, vec_len, sym, arith}
use Rattle.stores.proofs.Places.{none_counted}
use Rattle.stores.proofs.year_table.YearTable.new.Goals as goal

pub invariant_of-result-clause-counted : goal.invariant_of-result-clause-counted
invariant_of-result-clause-counted c =
    let places = c.in_ok-places.places in
    sym (none_counted (vec_items places) c.min-places.result (vec_len places) (c.in_ok-places.ensures.items_if_clones_equal (λ y e. grind arith)))
