-- Runs of calls, and the law that holds of every run.
use Rattle.std.specs.Prelude.{◌≡◌, ℕ, ◌<◌, cond, ◌⊎◌, List, [], ◌∷◌, ◌++◌, length, take, Some, None, Option, ◌==◌, slice_index_or}
use Rattle.std.specs.List.{AllByRecursion}
use Rattle.entries.specs.declared.case.Case.{Case}
use Rattle.entries.specs.declared.entry.Entry.{Entry}
use Rattle.figures.specs.Laws.{FeedInAddsUp, ImportAddsUp}
use Rattle.stores.specs.declared.store.Store.{Ghosts}
use Rattle.book.specs.declared.book.Book.{Book}
use Rattle.book.specs.Sheet.{Sheet, Call, begin, post, amend, fetch, draw, Outcome, accepted, refused, drafted, fetched, blank, outcome, after}
use Rattle.book.specs.Books.{sheet_of, Attends}

-- the answers that the sheet gives to a run, each after the calls before it
unfoldable pub outcomes : Sheet → List Call → List Outcome
outcomes s [] = []
outcomes s (c ∷ cs) = outcome s c ∷ outcomes (after s c) cs

-- the sheet at the end of a run
unfoldable pub final : Sheet → List Call → Sheet
final s [] = s
final s (c ∷ cs) = final (after s c) cs

-- a drawn statement adds up: feed-in in every case, import in cases 1 to 3
abbrev pub AddsUp : Outcome → Type 0
AddsUp accepted = Unit {0}
AddsUp (refused n vs) = Unit {0}
AddsUp (drafted d) = FeedInAddsUp d.feed_in d.figures × ImportAddsUp d.case d.import d.figures

-- a call that was made, and its answer
pub record Done : Type 0 where
  pub call : Call
  pub answer : Outcome

-- each call with its answer
abbrev pub pair_up : List Call → List Outcome → List Done
pair_up [] os = []
pair_up (c ∷ cs) [] = []
pair_up (c ∷ cs) (o ∷ os) = record { call = c; answer = o } ∷ pair_up cs os

-- the entry that a call enters at the quarter q, in the case c
abbrev pub entered_at : Case → ℕ → Call → Option Entry
entered_at c q (begin k y) = None
entered_at c q (post k e) = cond (q == k) (Some e) None
entered_at c q (amend k e) = cond (q == k) (Some e) None
entered_at c q (fetch k v z1 z2 z3) = cond (q == k) (Some (fetched c v z1 z2 z3)) None
entered_at c q draw = None

-- the call begins a year
abbrev pub Begins : Call → Type 0
Begins (begin k y) = Unit {0}
Begins (post k e) = ⊥
Begins (amend k e) = ⊥
Begins (fetch k v z1 z2 z3) = ⊥
Begins draw = ⊥

-- an accepted call among these neither begins a year nor enters the quarter q
abbrev pub Quiet : Case → ℕ → List Done → Type 0
Quiet c q done = AllByRecursion (λ x. x.answer ≡ accepted → (Begins x.call → ⊥) × (entered_at c q x.call ≡ None)) done

-- e is the entry of the last accepted post, fetch or amend of the quarter q since the last accepted begin
pub record LastEntered (c : Case) (q : ℕ) (done : List Done) (e : Entry) : Type 0 where
  pub before : List Done
  pub call : Call
  pub later : List Done
  pub split : done ≡ before ++ (record { call = call; answer = accepted } ∷ later)
  pub enters : entered_at c q call ≡ Some e
  pub quiet : Quiet c q later

-- nothing was called yet, or the last call was an accepted begin
abbrev pub Fresh : List Done → Type 0
Fresh done = (done ≡ []) ⊎ ((before : List Done) × (k : ℕ) × (y : ℕ) × (done ≡ before ++ (record { call = begin k y; answer = accepted } ∷ [])))

-- no accepted call has entered the quarter q since the last accepted begin
pub record NeverEntered (c : Case) (q : ℕ) (done : List Done) : Type 0 where
  pub before : List Done
  pub later : List Done
  pub split : done ≡ before ++ later
  pub fresh : Fresh before
  pub quiet : Quiet c q later

-- what stands at the quarter q after a run
abbrev pub StandsBy : Case → ℕ → List Done → Option Entry → Type 0
StandsBy c q done (Some e) = LastEntered c q done e
StandsBy c q done None = NeverEntered c q done

-- The law of a run that begins with the sheet s, of the calls cs, the answers os and the sheet t at its end: every answer is the sheet's, at its place the
-- sheet's after the calls before it; the end is the sheet's; every draft adds up; and at each quarter the entry of the last accepted post, fetch or amend
-- since the last accepted begin stands.
pub record RunLaw (s : Sheet) (cs : List Call) (os : List Outcome) (t : Sheet) : Type 0 where
  pub answers : os ≡ outcomes s cs
  pub places : (i : ℕ) → i < length cs → slice_index_or os i accepted ≡ outcome (final s (take i cs)) (slice_index_or cs i draw)
  pub sheet : t ≡ final s cs
  pub drafts : AllByRecursion AddsUp os
  pub stands : (q : ℕ) → StandsBy t.case q (pair_up cs os) (t.pairs q)

-- a chain of single calls on a book, each with series of its own types
pub data Chain {S : Type 0} (m : Ghosts S) : Book S → List Call → List Outcome → Book S → Type 0 where
  no_call : {b : Book S} → Chain m b [] [] b
  one_more : {b b₁ b₂ : Book S} {c : Call} {o : Outcome} {cs : List Call} {os : List Outcome}
      → Attends m b c o b₁ → Chain m b₁ cs os b₂ → Chain m b (c ∷ cs) (o ∷ os) b₂

-- whatever chain of calls follows on the book b, it keeps the law of a run from a blank sheet
abbrev pub Lawful : {S : Type 0} → Ghosts S → Book S → ℕ → ℕ → Type 0
Lawful {S} m b reach capacity = (b' : Book S) (cs : List Call) (os : List Outcome) → Chain m b cs os b' → RunLaw (blank reach capacity) cs os (sheet_of m b')
