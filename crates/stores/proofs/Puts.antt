-- When a put is not refused.
use Rattle.std.proofs.Common.{◌≡◌, ℕ, ◌<◌, is_some, Some, None, Option, refl, ap, arith}
use Rattle.std.proofs.lemmas.Bool.Decides.{nat_tests}
use Rattle.entries.specs.declared.entry.Entry.{Entry}
use Rattle.entries.specs.Pairs.{Pairs}
use Rattle.stores.specs.Puts.{put_refusal}
use Rattle.stores.proofs.Tallies.{tally_lt}

-- a store that can hold a pair for each quarter of its reach is never full
pub never_full : (n : ℕ) (p : Pairs) (q : ℕ) → q < n → put_refusal n n p q ≡ None
never_full n p q h = by_cases (p q) refl
  where
    by_cases : (o : Option Entry) → p q ≡ o → put_refusal n n p q ≡ None
    by_cases None none = grind (arith, nat_tests, tally_lt p q n h none, ap is_some none)
    by_cases (Some e) some = grind (arith, nat_tests, ap is_some some)
