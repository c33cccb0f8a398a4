-- What a store answers to a put.
use Rattle.std.specs.Prelude.{ℕ, List, codes, cond, is_some, Some, None, Ok, Err, Option, Result, ◌==◌, nat_le}
use Rattle.entries.specs.Pairs.{Pairs, tally}
use Rattle.stores.specs.declared.store.PutRefusal.{PutRefusal}
use Rattle.stores.specs.declared.store.PutRefusal.TheVariants.{Quarter, Full}

-- the number that a refusal goes by
abbrev pub put_refusal_number : PutRefusal → ℕ
put_refusal_number Quarter = 4
put_refusal_number Full = 10

-- what a refusal prints: its name, and its number in brackets
abbrev pub put_refusal_text : PutRefusal → List ℕ
put_refusal_text Quarter = codes "QUARTER (4)"
put_refusal_text Full = codes "FULL (10)"

-- the number of the refusal in an answer; none where the pair was put
abbrev pub refusal_in : Result (Unit {0}) PutRefusal → Option ℕ
refusal_in (Ok _) = None
refusal_in (Err refusal) = Some (put_refusal_number refusal)

-- the number of the refusal that a put at the quarter q meets, in a store with a reach, a capacity and pairs:
-- 4 at or beyond the reach; then 10 if q has no pair and as many stand as can; else none
abbrev pub put_refusal : ℕ → ℕ → Pairs → ℕ → Option ℕ
put_refusal reach capacity pairs q =
    cond (nat_le reach q) (Some 4) (cond (is_some (pairs q)) None (cond (tally pairs reach == capacity) (Some 10) None))
