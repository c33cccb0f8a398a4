-- The values of a line.
use Rattle.std.specs.Prelude.{ℕ, ◌+◌, ◌-◌, ◌*◌, ◌^◌, Bool, true, cond, ◌&&◌, List, [], ◌∷◌, length, Some, None, Ok, Err, Option, Result, ◌==◌, nat_le}
use Rattle.lines.specs.declared.misread.Misread.{Misread}
use Rattle.lines.specs.declared.misread.Misread.TheVariants.{Field}
use Rattle.lines.specs.declared.values.Class.{Class}
use Rattle.lines.specs.declared.values.Class.TheVariants.{Digit, Separator, Other}
use Rattle.lines.specs.Text.{fields, of_line}

-- a byte is a digit, 0 (48) to 9 (57)
abbrev pub is_digit : ℕ → Bool
is_digit c = nat_le 48 c && nat_le c 57

-- what a byte of a line of values is: 59 is the semicolon
abbrev pub class : ℕ → Class
class c = cond (is_digit c) (Digit (c - 48)) (cond (c == 59) Separator Other)

-- every byte is a digit
abbrev pub all_digits : List ℕ → Bool
all_digits [] = true
all_digits (c ∷ cs) = is_digit c && all_digits cs

-- the number that digits spell: each counts ten times the one after it
abbrev pub digits_value : List ℕ → ℕ
digits_value [] = 0
digits_value (c ∷ cs) = (c - 48) * 10 ^ length cs + digits_value cs

-- a field has 1 to 10 bytes
abbrev pub fit_length : List ℕ → Bool
fit_length f = nat_le 1 (length f) && nat_le (length f) 10

-- what a field spells: 1 to 10 digits, and nothing else
abbrev pub number_of : List ℕ → Option ℕ
number_of f = cond (fit_length f && all_digits f) (Some (digits_value f)) None

-- the value in the first of some fields, which is column k
abbrev pub first_value : ℕ → List (List ℕ) → Result ℕ Misread
first_value k [] = Err (Field k)
first_value k (f ∷ fs) = elim (number_of f) [ None ↦ Err (Field k) | Some v ↦ Ok v ]

-- the fields after the first
abbrev pub others : List (List ℕ) → List (List ℕ)
others [] = []
others (f ∷ fs) = fs

-- a, if no field is left; else column k is one too many
abbrev pub ends_with : {A : Type 0} → A → ℕ → List (List ℕ) → Result A Misread
ends_with a k [] = Ok a
ends_with a k (f ∷ fs) = Err (Field k)

-- the two values that two fields spell
abbrev pub pair_of : List (List ℕ) → Result (ℕ × ℕ) Misread
pair_of fs = elim (first_value 1 fs) [
  | Err e ↦ Err e
  | Ok a ↦ elim (first_value 2 (others fs)) [ Err e ↦ Err e | Ok b ↦ ends_with (a, b) 3 (others (others fs)) ]
]

-- the two values that a line spells
unfoldable pub pair_in : List ℕ → Result (ℕ × ℕ) Misread
pair_in line = of_line line (pair_of (fields line))
