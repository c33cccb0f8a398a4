use Rattle.std.proofs.Common.{◌≡◌, ℕ, ◌<◌, ◌≤◌, true, false, is_some, Some, None, Option, MatchOption, rules, arith}
use Rattle.std.specs.Option.{unwrap_or}
use Rattle.std.proofs.lemmas.Iterator.{first_from_Range}
use borrow.Author.Tests.{tests}
use Rattle.cabinet.proofs.stores_tour.first_free.Goals as goal

below : (Yes No : ℕ → Type 0) (r : Option ℕ) (n : ℕ)
    → MatchOption r ((k : ℕ) → 0 ≤ k → k < n → No k) (λ i. (0 ≤ i) × (i < n) × Yes i × ((k : ℕ) → 0 ≤ k → k < i → No k))
    → (m : ℕ) → m ≡ unwrap_or r n → (k : ℕ) → k < m → No k
below Yes No None n h m e k l = h k (omega arith) (omega arith)
below Yes No (Some i) n h m e k l = h.3 k (omega arith) (omega arith)

pub returns-clause-first : goal.returns-clause-first
returns-clause-first g c =
    below _ _ c.find.result c.reach-reach.result (first_from_Range _ _ _ c.find.result (λ k. is_some (g.S.Store.pairs c.args.store.now k) ≡ false) (λ k. is_some (g.S.Store.pairs c.args.store.now k) ≡ true) c.find.ensures.ran (λ x q k. search (rules, tests)) (λ x q k. search (rules, tests)))
    c.unwrap_or.result c.unwrap_or.ensures
