-- Where a quarter is on one slip at most, a slip with the quarter is the one, wherever it lies.
use Rattle.std.specs.Prelude.{◌≡◌, ℕ, zero, suc, ◌<◌, true, cond, List, [], ◌∷◌, length, is_some, Some, None, Option, ◌==◌, ◌≢◌, slice_index_or, slice_set, refl}
use Rattle.std.proofs.Common.{sym, ap, ◌∙◌, arith}
use Rattle.std.proofs.Math.Path.{fun_ext}
use Rattle.std.specs.Option.{option_map}
use Rattle.std.specs.List.{slice_get}
use Rattle.std.proofs.lemmas.Bool.{true≢false, eq-eqb, cond-true}
use Rattle.std.proofs.lemmas.Option.{slice_get-get_or}
use Rattle.std.proofs.lemmas.Bool.Decides.{nat_tests}
use Rattle.entries.specs.declared.entry.Entry.{Entry}
use Rattle.entries.specs.Pairs.{updated}
use Rattle.entries.proofs.Totals.{with_at_elsewhere}
use Rattle.stores.specs.declared.slip.Slip.{Slip}
use Rattle.stores.specs.Slips.{on_slips, quarter_on, entry_on, Found}
use Rattle.stores.specs.StoreLaws.{Once}

-- the quarter that is read from the slip at i
pub quarter_read : (ss : List Slip) (i q : ℕ) (d : Slip) → i < length ss → (slice_index_or ss i d).quarter ≡ q → quarter_on ss i ≡ Some q
quarter_read ss i q d h e = ap (option_map (λ s. s.quarter)) (slice_get-get_or ss i d h) ∙ ap Some e

pub read_quarter : (ss : List Slip) (i q : ℕ) (d : Slip) → i < length ss → quarter_on ss i ≡ Some q → (slice_index_or ss i d).quarter ≡ q
read_quarter ss i q d h e =
    let here : ◌≡◌ {A = Option ℕ} (Some (slice_index_or ss i d).quarter) (Some q) = sym (quarter_read ss i (slice_index_or ss i d).quarter d h refl) ∙ e in
    cc

-- no slip has the quarter
pub slips_miss : (ss : List Slip) (q : ℕ) → ((k : ℕ) → k < length ss → quarter_on ss k ≢ Some q) → on_slips ss q ≡ None
slips_miss [] q h = refl
slips_miss (s ∷ ss) q h =
    with_at_elsewhere (on_slips ss) s.quarter (Some s.entry) q (λ e. h 0 (omega arith) (ap Some (sym e)))
    ∙ slips_miss ss q (λ k l e. h (suc k) (omega arith) e)

-- a slip has the quarter, and so it is the only one
alike : (o : Option Slip) → is_some (option_map (λ s. s.entry) o) ≡ is_some (option_map (λ s. s.quarter) o)
alike None = refl
alike (Some s) = refl

stands : (ss : List Slip) (i q : ℕ) → quarter_on ss i ≡ Some q → entry_on ss i ≡ on_slips ss q → is_some (on_slips ss q) ≡ true
stands ss i q e r = ap is_some (sym r) ∙ alike (slice_get ss i) ∙ ap is_some e

apart : (n : ℕ) (s : Slip) (ss : List Slip) (i q : ℕ) → Once n (s ∷ ss) → quarter_on ss i ≡ Some q → entry_on ss i ≡ on_slips ss q → s.quarter ≢ q
apart n s ss i q t e r m = true≢false (sym (stands ss i q e r) ∙ ap (λ k. is_some (on_slips ss k)) (sym m) ∙ ap is_some t.1)

pub slips_hit : (n : ℕ) (ss : List Slip) (i q : ℕ) → Once n ss → quarter_on ss i ≡ Some q → entry_on ss i ≡ on_slips ss q
slips_hit n [] i q t e = grind arith
slips_hit n (s ∷ ss) zero q t e =
    let m : s.quarter ≡ q = cc in
    sym (cond-true (s.quarter == q) (Some s.entry) (on_slips ss q) (eq-eqb s.quarter q m))
slips_hit n (s ∷ ss) (suc i) q t e =
    let r = slips_hit n ss i q t.2 e in
    r ∙ sym (with_at_elsewhere (on_slips ss) s.quarter (Some s.entry) q (λ m. apart n s ss i q t e r (sym m)))

pub slips_found : (n : ℕ) (ss : List Slip) (i q : ℕ) → Once n ss → i < length ss → quarter_on ss i ≡ Some q → Found ss q i
slips_found n ss i q t h e =
    let r = slips_hit n ss i q t e in
    record { within = h; quarter = e; entry = r; stands = stands ss i q e r }

-- changes at two quarters, in either order
crossed : (k a b : ℕ) (x y o : Option Entry) → (a ≢ b) → cond (a == k) x (cond (b == k) y o) ≡ cond (b == k) y (cond (a == k) x o)
crossed k a b x y o ne = grind (arith, nat_tests)

-- the slip at i written over with one of the same quarter
slips_set_at : (n : ℕ) (ss : List Slip) (i : ℕ) (w : Slip) → Once n ss → quarter_on ss i ≡ Some w.quarter
    → (k : ℕ) → on_slips (slice_set ss i w) k ≡ updated (on_slips ss) w.quarter w.entry k
slips_set_at n [] i w t e k = grind arith
slips_set_at n (s ∷ ss) zero w t e k = let m : s.quarter ≡ w.quarter = cc in grind (arith, nat_tests)
slips_set_at n (s ∷ ss) (suc i) w t e k =
    ap (λ o. cond (s.quarter == k) (Some s.entry) o) (slips_set_at n ss i w t.2 e k)
    ∙ crossed k s.quarter w.quarter (Some s.entry) (Some w.entry) (on_slips ss k) (apart n s ss i w.quarter t e (slips_hit n ss i w.quarter t.2 e))

pub slips_set : (n : ℕ) (ss : List Slip) (i : ℕ) (w : Slip) → Once n ss → quarter_on ss i ≡ Some w.quarter
    → on_slips (slice_set ss i w) ≡ updated (on_slips ss) w.quarter w.entry
slips_set n ss i w t e = fun_ext (slips_set_at n ss i w t e)

pub once_set : (n : ℕ) (ss : List Slip) (i : ℕ) (w : Slip) → Once n ss → quarter_on ss i ≡ Some w.quarter → Once n (slice_set ss i w)
once_set n [] i w t e = tt
once_set n (s ∷ ss) zero w t e =
    let m : s.quarter ≡ w.quarter = cc in
    (omega arith, ap (on_slips ss) (sym m) ∙ t.1, t.2)
once_set n (s ∷ ss) (suc i) w t e = (
  t.0,
  slips_set_at n ss i w t.2 e s.quarter
      ∙ with_at_elsewhere (on_slips ss) w.quarter (Some w.entry) s.quarter (apart n s ss i w.quarter t e (slips_hit n ss i w.quarter t.2 e))
      ∙ t.1,
  once_set n ss i w t.2 e,
)
