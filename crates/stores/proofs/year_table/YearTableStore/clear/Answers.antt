use Rattle.std.proofs.Common.{vec_items, vec_len, sym, arith}
use Rattle.stores.proofs.Places.{none_counted}
use Rattle.stores.proofs.year_table.YearTableStore.clear.Goals as goal

pub invariant_of-self-clause-counted : goal.invariant_of-self-clause-counted
invariant_of-self-clause-counted c =
    sym (none_counted (vec_items c.fill.new.self) (vec_len c.args.self.now.places) (vec_len c.fill.new.self) (c.fill.ensures.items (λ y e. grind arith)))
