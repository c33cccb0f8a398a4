-- The law of runs.
use Rattle.std.proofs.Common.{◌≡◌, ℕ, zero, suc, ◌<◌, Bool, true, false, cond, eqb, List, [], ◌∷◌, ◌++◌, length, get_or, take, Some, None, Option, sym, refl, ap, ◌∙◌, subst, inl, inr, append_assoc, arith}
use Rattle.std.proofs.lemmas.Bool.Decides.{nat_tests}
use Rattle.std.specs.List.{AllByRecursion}
use Rattle.entries.specs.declared.case.Case.{Case}
use Rattle.entries.specs.declared.entry.Entry.{Entry}
use Rattle.sums.specs.Year.{totals}
use Rattle.figures.proofs.Laws.{feed_in_adds_up, import_adds_up}
use Rattle.sums.proofs.Years.{totals_balanced}
use Rattle.stores.specs.declared.store.Store.{Ghosts}
use Rattle.book.specs.declared.book.Book.{Book}
use Rattle.book.specs.Sheet.{Sheet, Call, begin, post, amend, fetch, draw, Outcome, accepted, refused, drafted, blank, statement, fetched, first_failing, checks, reply, effect, answered, left_as, outcome, after}
use Rattle.book.specs.Books.{sheet_of, Kept, Attends}
use Rattle.book.specs.Runs.{outcomes, final, AddsUp, Done, pair_up, entered_at, Begins, Quiet, LastEntered, StandsBy, RunLaw, Chain, no_call, one_more}

-- every draft adds up
adds_up_by : (r : Option (ℕ × List ℕ)) (s : Sheet) (c : Call) → AddsUp (answered r (reply s c))
adds_up_by None s (begin k y) = tt
adds_up_by None s (post q e) = tt
adds_up_by None s (amend q e) = tt
adds_up_by None s (fetch q v z1 z2 z3) = tt
adds_up_by None s draw =
    (feed_in_adds_up s.case (totals s.pairs) (totals_balanced s.pairs), import_adds_up s.case (totals s.pairs) (totals_balanced s.pairs))
adds_up_by (Some x) s c = tt

all_add_up : (s : Sheet) (cs : List Call) → AllByRecursion AddsUp (outcomes s cs)
unfolding outcome outcomes
all_add_up s [] = tt
all_add_up s (c ∷ cs) = (adds_up_by (first_failing (checks s c)) s c, all_add_up (after s c) cs)

-- the answer at each place is that of the sheet as the calls before it left it
outcome_at_place : (s : Sheet) (cs : List Call) (i : ℕ) → i < length cs → get_or (outcomes s cs) i accepted ≡ outcome (final s (take i cs)) (get_or cs i draw)
unfolding outcomes final
outcome_at_place s [] i h = absurd (omega arith)
outcome_at_place s (c ∷ cs) zero h = refl
outcome_at_place s (c ∷ cs) (suc i) h = outcome_at_place (after s c) cs i (omega arith)

-- What a run makes of the quarter q, from a sheet s on: its last entry stands, or a year began and nothing was entered, or nothing touched it.
data Traced (q : ℕ) (s t : Sheet) (done : List Done) : Type 0 where
  entered : (e : Entry) → t.pairs q ≡ Some e → LastEntered t.case q done e → Traced q s t done
  begun : (before later : List Done) (k y : ℕ) → done ≡ before ++ (record { call = begin k y; answer = accepted } ∷ later) → Quiet t.case q later
      → t.pairs q ≡ None → Traced q s t done
  untouched : Quiet t.case q done → t.pairs q ≡ s.pairs q → t.case ≡ s.case → Traced q s t done

-- one call more in front of a run
module _ (q : ℕ) (s s₁ t : Sheet) (x : Done) (done : List Done) where
  later_on : Traced q s₁ t done → ((Quiet t.case q done → t.pairs q ≡ s₁.pairs q → t.case ≡ s₁.case → Traced q s t (x ∷ done))) → Traced q s t (x ∷ done)
  later_on (entered e is l) h =
      entered e is (record { before = x ∷ l.before; call = l.call; later = l.later; split = ap (λ (ys : List Done). x ∷ ys) l.split; enters = l.enters; quiet = l.quiet })
  later_on (begun before later k y split quiet none) h = begun (x ∷ before) later k y (ap (λ (ys : List Done). x ∷ ys) split) quiet none
  later_on (untouched quiet pairs case) h = h quiet pairs case

refused_quiet : (c : Case) (q : ℕ) (k : Call) (n : ℕ) (vs : List ℕ) → refused n vs ≡ accepted → (Begins k → ⊥) × (entered_at c q k ≡ None)
refused_quiet c q k n vs e = absurd cc

drafted_quiet : (c : Case) (q : ℕ) (s : Sheet) → drafted (statement s) ≡ accepted → (Begins draw → ⊥) × (entered_at c q draw ≡ None)
drafted_quiet c q s e = ((λ x. x), refl)

-- an accepted call that writes e down at k, seen at q
turned : (a b : ℕ) → eqb a b ≡ eqb b a
turned a b = grind (arith, nat_tests)

module _ (q : ℕ) (s t : Sheet) (call : Call) (done : List Done) (k : ℕ) (e : Entry) where
  wrote : (not_begin : Begins call → ⊥) → ((c : Case) → c ≡ s.case → entered_at c q call ≡ cond (eqb q k) (Some e) None)
      → (b : Bool) → eqb q k ≡ b → Quiet t.case q done → t.pairs q ≡ cond (eqb k q) (Some e) (s.pairs q) → t.case ≡ s.case
      → Traced q s t (record { call = call; answer = accepted } ∷ done)
  wrote nb at true is quiet pairs case =
      entered e (pairs ∙ ap (λ (x : Bool). cond x (Some e) (s.pairs q)) (turned k q ∙ is))
      (record {
        before = [];
        call = call;
        later = done;
        split = refl;
        enters = at t.case case ∙ ap (λ (x : Bool). cond x (Some e) None) is;
        quiet = quiet;
      })
  wrote nb at false is quiet pairs case =
      untouched ((λ _. (nb, at t.case case ∙ ap (λ (x : Bool). cond x (Some e) None) is)), quiet)
      (pairs ∙ ap (λ (x : Bool). cond x (Some e) (s.pairs q)) (turned k q ∙ is)) case

step : (q : ℕ) (s t : Sheet) (done : List Done) (c : Call) (r : Option (ℕ × List ℕ)) → Traced q (left_as r (effect s c) s) t done
    → Traced q s t (record { call = c; answer = answered r (reply s c) } ∷ done)
step q s t done c (Some x) h =
    later_on q s s t (record { call = c; answer = refused x.0 x.1 }) done h
    (λ quiet pairs case. untouched ((λ e. refused_quiet t.case q c x.0 x.1 e), quiet) pairs case)
step q s t done (begin k y) None h =
    later_on q s (effect s (begin k y)) t (record { call = begin k y; answer = accepted }) done h
    (λ quiet pairs case. begun [] done k y refl quiet pairs)
step q s t done (post k e) None h =
    later_on q s (effect s (post k e)) t (record { call = post k e; answer = accepted }) done h
    (wrote q s t (post k e) done k e (λ x. x) (λ c _. refl) (eqb q k) refl)
step q s t done (amend k e) None h =
    later_on q s (effect s (amend k e)) t (record { call = amend k e; answer = accepted }) done h
    (wrote q s t (amend k e) done k e (λ x. x) (λ c _. refl) (eqb q k) refl)
step q s t done (fetch k v z1 z2 z3) None h =
    later_on q s (effect s (fetch k v z1 z2 z3)) t (record { call = fetch k v z1 z2 z3; answer = accepted }) done h
    (wrote q s t (fetch k v z1 z2 z3) done k (fetched s.case v z1 z2 z3) (λ x. x)
    (λ c same. ap (λ (a : Case). cond (eqb q k) (Some (fetched a v z1 z2 z3)) None) same) (eqb q k) refl)
step q s t done draw None h =
    later_on q s s t (record { call = draw; answer = drafted (statement s) }) done h
    (λ quiet pairs case. untouched ((λ e. drafted_quiet t.case q s e), quiet) pairs case)

traced : (q : ℕ) (s : Sheet) (cs : List Call) → Traced q s (final s cs) (pair_up cs (outcomes s cs))
unfolding outcomes final outcome after
traced q s [] = untouched tt refl refl
traced q s (c ∷ cs) =
    step q s (final (after s c) cs) (pair_up cs (outcomes (after s c) cs)) c (first_failing (checks s c)) (traced q (after s c) cs)

stands_by : (q : ℕ) (s t : Sheet) (done : List Done) → s.pairs q ≡ None → Traced q s t done → StandsBy t.case q done (t.pairs q)
stands_by q s t done none (entered e is l) = subst (StandsBy t.case q done) (sym is) l
stands_by q s t done none (begun before later k y split quiet is) =
    let began : Done = record { call = begin k y; answer = accepted } in
    subst (StandsBy t.case q done) (sym is)
    (record {
      before = before ++ (began ∷ []);
      later = later;
      split = split ∙ sym (append_assoc before (began ∷ []) later);
      fresh = inr (before, k, y, refl);
      quiet = quiet;
    })
stands_by q s t done none (untouched quiet pairs case) =
    subst (StandsBy t.case q done) (sym (pairs ∙ none)) (record { before = []; later = done; split = refl; fresh = inl refl; quiet = quiet })

-- every run that begins with a blank sheet keeps the law
pub law_of_run : (reach capacity : ℕ) (cs : List Call) → RunLaw (blank reach capacity) cs (outcomes (blank reach capacity) cs) (final (blank reach capacity) cs)
law_of_run reach capacity cs =
    let s : Sheet = blank reach capacity in
    record {
      answers = refl;
      places = outcome_at_place s cs;
      sheet = refl;
      drafts = all_add_up s cs;
      stands = λ q. stands_by q s (final s cs) (pair_up cs (outcomes s cs)) refl (traced q s cs);
    }

module _ {S : Type 0} (m : Ghosts S) where
  record Followed (b : Book S) (cs : List Call) (os : List Outcome) (b' : Book S) : Type 0 where
    answers : os ≡ outcomes (sheet_of m b) cs
    sheet : sheet_of m b' ≡ final (sheet_of m b) cs

  followed : {b b' : Book S} {cs : List Call} {os : List Outcome} → Chain m b cs os b' → Followed b cs os b'
  unfolding outcomes final
  followed no_call = record { answers = refl; sheet = refl }
  followed (one_more {b} {b₁} {b₂} {c} {o} {cs} {os} a h) =
      let t = a.told in
      let rest = followed h in
      record {
        answers = ap (λ (x : Outcome). x ∷ os) t.answer ∙ ap (λ (xs : List Outcome). outcome (sheet_of m b) c ∷ xs) (rest.answers ∙ ap (λ (s : Sheet). outcomes s cs) t.sheet);
        sheet = rest.sheet ∙ ap (λ (s : Sheet). final s cs) t.sheet;
      }

  -- and so does every chain of calls on a book that begins with one
  pub law_of_chain : {b b' : Book S} {cs : List Call} {os : List Outcome} (reach capacity : ℕ) → Chain m b cs os b' → sheet_of m b ≡ blank reach capacity
      → RunLaw (blank reach capacity) cs os (sheet_of m b')
  law_of_chain {b} {b'} {cs} {os} reach capacity h new =
      let f = followed h in
      let answers : os ≡ outcomes (blank reach capacity) cs = f.answers ∙ ap (λ (s : Sheet). outcomes s cs) new in
      let sheet : sheet_of m b' ≡ final (blank reach capacity) cs = f.sheet ∙ ap (λ (s : Sheet). final s cs) new in
      subst (λ (t : Sheet). RunLaw (blank reach capacity) cs os t) (sym sheet)
      (subst (λ (xs : List Outcome). RunLaw (blank reach capacity) cs xs (final (blank reach capacity) cs)) (sym answers) (law_of_run reach capacity cs))

  -- one call more at the end of a chain
  pub chain_push : {b b₁ b₂ : Book S} {c : Call} {o : Outcome} {cs : List Call} {os : List Outcome} → Chain m b cs os b₁ → Attends m b₁ c o b₂
      → Chain m b (cs ++ (c ∷ [])) (os ++ (o ∷ [])) b₂
  chain_push no_call a = one_more a no_call
  chain_push (one_more x h) a = one_more x (chain_push h a)

  -- a chain keeps the book
  pub chain_kept : {b b' : Book S} {cs : List Call} {os : List Outcome} → Chain m b cs os b' → Kept m b → Kept m b'
  chain_kept no_call k = k
  chain_kept (one_more a h) k = chain_kept h a.kept
