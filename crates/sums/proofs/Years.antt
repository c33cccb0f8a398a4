-- The sums of a year: what one quarter's change makes of them, and that they balance.
use Rattle.std.proofs.Common.{◌≡◌, ℕ, ◌+◌, ◌<◌, Bool, true, false, cond, ltb, Some, None, sym, ap, ◌∙◌, arith}
use Rattle.entries.specs.declared.entry.Entry.{Entry}
use Rattle.entries.specs.Pairs.{Pairs, most_quarters, no_pairs, updated, without, total}
use Rattle.entries.proofs.Totals.{total_none, total_adds, total_le, total_added, total_replaced, total_removed}
use Rattle.sums.specs.Quarter.{grid_draw, stored_feed_in, plant_draw, direct_feed_in, in_paid, in_zero}
use Rattle.sums.specs.Year.{gather, totals}
use Rattle.sums.specs.declared.totals.Totals.{Totals}
use Rattle.sums.specs.Sums.{Balanced, none, one, with_entry}
use Rattle.sums.proofs.Cancel.{cancel}

-- two ways to sum that agree on every amount make the same record
pub gather_alike : (s r : (Entry → ℕ) → ℕ) → ((f : Entry → ℕ) → s f ≡ r f) → gather s ≡ gather r
gather_alike s r h = ap gather (λ i. λ f. h f i)

pub totals_none : totals no_pairs ≡ none
totals_none = gather_alike (λ f. total f no_pairs most_quarters) (λ _. 0) (total_none most_quarters)

pub totals_added : (p : Pairs) (q : ℕ) (e : Entry) → q < most_quarters → p q ≡ None → totals (updated p q e) ≡ with_entry (totals p) e
totals_added p q e h free =
    gather_alike (λ f. total f (updated p q e) most_quarters) (λ f. total f p most_quarters + f e) (λ f. total_added most_quarters f p q e h free)

pub totals_replaced : (p : Pairs) (q : ℕ) (new : Entry) → q < most_quarters → totals (updated p q new) ≡ with_entry (totals (without p q)) new
totals_replaced p q new h =
    gather_alike (λ f. total f (updated p q new) most_quarters) (λ f. total f (without p q) most_quarters + f new)
    (λ f. total_replaced most_quarters f p q new h)

pub totals_removed : (p : Pairs) (q : ℕ) (old : Entry) → q < most_quarters → p q ≡ Some old → with_entry (totals (without p q)) old ≡ totals p
totals_removed p q old h stood =
    gather_alike (λ f. total f (without p q) most_quarters + f old) (λ f. total f p most_quarters)
    (λ f. total_removed most_quarters f p q old h stood)

either_time : (b : Bool) (n : ℕ) → cond b n 0 + cond b 0 n ≡ n
either_time true n = omega arith
either_time false n = omega arith

paid_and_zero : (f : Entry → ℕ) (p : Pairs) → total (in_paid f) p most_quarters + total (in_zero f) p most_quarters ≡ total f p most_quarters
paid_and_zero f p = total_adds most_quarters (in_paid f) (in_zero f) f p (λ e. either_time (ltb 0 e.value) (f e))

-- the sums of any year balance
pub totals_balanced : (p : Pairs) → Balanced (totals p)
totals_balanced p =
    let direct_and_stored : total direct_feed_in p most_quarters + total stored_feed_in p most_quarters ≡ total (λ e. e.readings.feed_in) p most_quarters =
    total_adds most_quarters direct_feed_in stored_feed_in (λ e. e.readings.feed_in) p (λ e. omega arith) in (
      total_adds most_quarters grid_draw plant_draw (λ e. e.readings.drawn) p (λ e. omega arith),
      omega (arith, paid_and_zero direct_feed_in p, direct_and_stored),
      paid_and_zero stored_feed_in p,
      total_le most_quarters grid_draw (λ e. e.readings.import) p (λ e. omega arith),
      total_le most_quarters stored_feed_in (λ e. e.readings.given) p (λ e. omega arith),
    )

-- sums of which an entry that stands in the year made those of the year are those of the year without it
pub before_in_year : (u : Totals) (p : Pairs) (q : ℕ) (old : Entry) → q < most_quarters → p q ≡ Some old → with_entry u old ≡ totals p
    → u ≡ totals (without p q)
before_in_year u p q old h stood before = cancel u (totals (without p q)) (one old) (before ∙ sym (totals_removed p q old h stood))
