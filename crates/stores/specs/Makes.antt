-- What a store is when it is made.
use Rattle.std.specs.Prelude.{◌≡◌, ℕ}
use Rattle.entries.specs.Pairs.{no_pairs}
use Rattle.stores.specs.declared.store.Store.{Ghosts}

-- the store s, of this make, has the reach n and the capacity m, and no pair stands in it
pub record EmptyStore {S : Type 0} (make : Ghosts S) (n m : ℕ) (s : S) : Type 0 where
  pub reach : make.reach s ≡ n
  pub capacity : make.capacity s ≡ m
  pub pairs : make.pairs s ≡ no_pairs
