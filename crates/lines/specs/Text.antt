-- A text cut at a byte: its lines, and the fields of a line.
use Rattle.std.specs.Prelude.{◌≡◌, ℕ, ◌+◌, ◌<◌, Bool, true, cond, ◌&&◌, ◌⊎◌, List, [], ◌∷◌, ◌++◌, length, Some, None, Ok, Err, codes, Option, Result, ◌==◌, nat_lt, slice_index}
use Rattle.std.specs.Borrow.{Bor}
use Rattle.lines.specs.declared.misread.Misread.{Misread}
use Rattle.lines.specs.declared.misread.Misread.TheVariants.{Name, Field}

-- x before the first piece
abbrev pub onto : ℕ → List (List ℕ) → List (List ℕ)
onto x [] = (x ∷ []) ∷ []
onto x (p ∷ ps) = (x ∷ p) ∷ ps

-- the pieces between the bytes c: one more than there are such bytes
abbrev pub cut : ℕ → List ℕ → List (List ℕ)
cut c [] = [] ∷ []
cut c (x ∷ xs) = cond (x == c) ([] ∷ cut c xs) (onto x (cut c xs))

-- the pieces of what is left, if anything is
abbrev pub pieces : ℕ → Option (Bor (List ℕ)) → List (List ℕ)
pieces c None = []
pieces c (Some rest) = cut c rest.now

-- what follows the first piece of a text that is cut at the byte c: nothing, where that is the whole text; else the text is the piece, that byte and the rest
abbrev pub Follows : ℕ → List ℕ → List ℕ → Option (Bor (List ℕ)) → Type 0
Follows c text piece None = piece ≡ text
Follows c text piece (Some rest) = text ≡ piece ++ (c ∷ rest.now)

-- a last piece, unless it is empty
abbrev pub unless_empty : List ℕ → List (List ℕ)
unless_empty [] = []
unless_empty (x ∷ xs) = (x ∷ xs) ∷ []

-- pieces without an empty one at the end
abbrev pub ended : List (List ℕ) → List (List ℕ)
ended [] = []
ended (p ∷ []) = unless_empty p
ended (p ∷ (q ∷ qs)) = p ∷ ended (q ∷ qs)

-- the lines of a text: they end with a line feed (10), which the last may lack
unfoldable pub lines : List ℕ → List (List ℕ)
lines text = ended (cut 10 text)

-- the text is the line, a line feed and the rest; or it is the line, and the rest is empty
abbrev pub CutsLine : List ℕ → List ℕ → List ℕ → Type 0
CutsLine text line rest = (text ≡ line ++ (10 ∷ rest)) ⊎ ((text ≡ line) × (rest ≡ []))

-- the fields of a line: they stand between semicolons (59)
abbrev pub fields : List ℕ → List (List ℕ)
fields line = cut 59 line

-- a line has over 200 bytes
abbrev pub too_long : List ℕ → Bool
too_long line = nat_lt 200 (length line)

-- what is read of a line, unless it is too long
abbrev pub of_line : {A : Type 0} → List ℕ → Result A Misread → Result A Misread
of_line line r = cond (too_long line) (Err (Field 0)) r

-- from place i on, f has the bytes cs
abbrev pub agrees : List ℕ → ℕ → List ℕ → Bool
agrees f i [] = true
agrees f i (c ∷ cs) = slice_index f i == c && agrees f (i + 1) cs

-- f is just the bytes cs
abbrev pub same_bytes : List ℕ → List ℕ → Bool
same_bytes f cs = length f == length cs && agrees f 0 cs

-- what the bytes of a heading come to: it has to be CASE;YEAR
abbrev pub heading_of : List ℕ → Result (Unit {0}) Misread
heading_of line = cond (same_bytes line (codes "CASE;YEAR")) (Ok tt) (Err (Name 1))

-- what the heading of an input comes to
unfoldable pub heading_in : List ℕ → Result (Unit {0}) Misread
heading_in line = of_line line (heading_of line)

-- i is the first place that is bad
pub record First (Bad : ℕ → Type 0) (i : ℕ) : Type 0 where
  pub here : Bad i
  pub before : (j : ℕ) → j < i → Bad j → ⊥
