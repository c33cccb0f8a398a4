-- A chain of calls that a loop over visits makes.
use Rattle.std.proofs.Common.{◌≡◌, ℕ, ◌+◌, ◌<◌, List, [], ◌∷◌, ◌++◌, map, length, get_or, take, sym, ap, ◌∙◌, subst}
use Rattle.std.proofs.lemmas.List.{map_more, map_push}
use Rattle.stores.specs.declared.store.Store.{Ghosts}
use Rattle.book.specs.declared.book.Book.{Book}
use Rattle.book.specs.Sheet.{Call, Outcome}
use Rattle.book.specs.Books.{Attends}
use Rattle.book.specs.Runs.{Chain, no_call}
use Rattle.book.proofs.Runs.{chain_push}

pub chain_none : {S X : Type 0} (m : Ghosts S) (b : Book S) (h : X → Outcome) (xs : List X) → xs ≡ [] → Chain m b [] (map h xs) b
chain_none m b h xs e = subst (λ ys. Chain m b [] (map h ys) b) (sym e) no_call

module _ {S : Type 0} (m : Ghosts S) (b : Book S) {W X : Type 0} (f : W → Call) (h : X → Outcome) (vs : List W) (i : ℕ) where
  -- a turn of the loop
  pub chain_turn : (w : W) → i < length vs → w ≡ get_or vs i w → (xs xs' : List X) (x : X) → xs' ≡ xs ++ (x ∷ []) → (b₁ b₂ : Book S)
      → Chain m b (map f (take i vs)) (map h xs) b₁ → Attends m b₁ (f w) (h x) b₂ → Chain m b (map f (take (i + 1) vs)) (map h xs') b₂
  chain_turn w below is xs xs' x e b₁ b₂ c a =
      let calls : map f (take (i + 1) vs) ≡ map f (take i vs) ++ (f w ∷ []) = map_more f vs i w below ∙ ap (λ u. map f (take i vs) ++ (f u ∷ [])) (sym is) in
      let answers : map h xs' ≡ map h xs ++ (h x ∷ []) = ap (map h) e ∙ map_push h xs x in
      subst (λ u. Chain m b u (map h xs') b₂) (sym calls) (subst (λ u. Chain m b (map f (take i vs) ++ (f w ∷ [])) u b₂) (sym answers) (chain_push m c a))
