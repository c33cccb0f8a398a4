-- A text cut at a byte.
use Rattle.std.proofs.Common.{◌≡◌, ◌≢◌, ℕ, zero, suc, ◌+◌, ◌-◌, ◌<◌, ◌≤◌, eqb, List, [], ◌∷◌, ◌++◌, length, get_or, take, drop, refl, ap, ◌∙◌, arith, add-one, length-append, eq-eqb, ne_eqb}
use Rattle.std.proofs.lemmas.List.{take_rest}
use Rattle.std.proofs.lemmas.Bool.{cond_both}
use Rattle.lines.specs.Text.{onto, cut, ended, lines}

pub cut_whole : (c : ℕ) (xs : List ℕ) → ((k : ℕ) → k < length xs → get_or xs k 0 ≢ c) → cut c xs ≡ xs ∷ []
cut_whole c [] none = refl
cut_whole c (x ∷ xs) none = rw (ne_eqb x c (none 0 (omega arith)), cut_whole c xs (λ k h. none (suc k) (omega arith)))

cut_first : (c : ℕ) (xs : List ℕ) (i : ℕ) → i < length xs → get_or xs i 0 ≡ c → ((k : ℕ) → k < i → get_or xs k 0 ≢ c) → cut c xs ≡ take i xs ∷ cut c (drop (suc i) xs)
cut_first c [] i h at before = absurd (omega arith)
cut_first c (x ∷ xs) zero h at before = rw (eq-eqb x c at)
cut_first c (x ∷ xs) (suc i) h at before = rw (ne_eqb x c (before 0 (omega arith)), cut_first c xs i (omega arith) at (λ k l. before (suc k) (omega arith)))

-- the first piece ends at the first byte c
pub cut_at : (c : ℕ) (xs : List ℕ) (i : ℕ) → i < length xs → get_or xs i 0 ≡ c → ((k : ℕ) → k < i → get_or xs k 0 ≢ c) → cut c xs ≡ take i xs ∷ cut c (take (length xs - (i + 1)) (drop (i + 1) xs))
cut_at c xs i h at before = rw (take_rest xs (i + 1), add-one) (cut_first c xs i h at before)

onto_some : (x : ℕ) (ps : List (List ℕ)) → 0 < length (onto x ps)
onto_some x [] = omega arith
onto_some x (p ∷ ps) = omega arith

-- a text has at least one piece
pub cut_some : (c : ℕ) (xs : List ℕ) → 0 < length (cut c xs)
cut_some c [] = omega arith
cut_some c (x ∷ xs) = cond_both (eqb x c) ([] ∷ cut c xs) (onto x (cut c xs)) (λ ps. 0 < length ps) (λ _. omega arith) (λ _. onto_some x (cut c xs))

ended_more : (p : List ℕ) (ps : List (List ℕ)) → 0 < length ps → ended (p ∷ ps) ≡ p ∷ ended ps
ended_more p [] some = absurd (omega arith)
ended_more p (q ∷ qs) some = refl

-- the line before the first line feed
pub lines_more : (text line rest : List ℕ) → cut 10 text ≡ line ∷ cut 10 rest → lines text ≡ line ∷ lines rest
unfolding lines
lines_more text line rest e = ap ended e ∙ ended_more line (cut 10 rest) (cut_some 10 rest)

-- a text without line feeds
pub lines_last : (text : List ℕ) → 0 < length text → cut 10 text ≡ text ∷ [] → lines text ≡ text ∷ lines []
unfolding lines
lines_last [] some e = absurd (omega arith)
lines_last (x ∷ text) some e = ap ended e

-- what follows a piece is shorter than the text
pub rest_shorter : (c : ℕ) (text piece rest : List ℕ) → text ≡ piece ++ (c ∷ rest) → length rest < length text
rest_shorter c text piece rest e = omega (arith, simp length-append at (ap length e))

onto_few : (x : ℕ) (ps : List (List ℕ)) → length (ended (onto x ps)) ≤ length (ended ps) + 1
onto_few x [] = omega arith
onto_few x (p ∷ []) = omega arith
onto_few x (p ∷ (q ∷ qs)) = omega arith

ended_few : (text : List ℕ) → length (ended (cut 10 text)) ≤ length text
ended_few [] = omega arith
ended_few (x ∷ text) =
    let rest = ended_few text in
    cond_both (eqb x 10) ([] ∷ cut 10 text) (onto x (cut 10 text)) (λ ps. length (ended ps) ≤ length (x ∷ text))
    (λ _. omega (arith, ap length (ended_more [] (cut 10 text) (cut_some 10 text))))
    (λ _. omega (arith, onto_few x (cut 10 text)))

-- a text has no more lines than bytes
pub lines_few : (text : List ℕ) → length (lines text) ≤ length text
unfolding lines
lines_few text = ended_few text
