-- The text of a statement: a line of names and a line of values.
use Rattle.std.specs.Prelude.{◌≡◌, ℕ, ◌<◌, ◌≤◌, List, [], ◌∷◌, ◌++◌, map, length, drop, ℤ, pos, Some, None, Ok, Err, codes, decimal, Option, Result}
use Rattle.std.specs.Fmt.{signed_decimal}
use Rattle.entries.specs.Cases.{case_number}
use Rattle.statements.specs.declared.refusal.Short.{Short}
use Rattle.statements.specs.declared.statement.Statement.{Statement}

-- the names of the columns
abbrev pub column_names : List (List ℕ)
column_names =
    codes "CASE" ∷ (codes "YEAR" ∷ (codes "N" ∷ (codes "IMPORT" ∷ (codes "FEEDIN" ∷ (codes "NETTABLE" ∷ (codes "LOSS" ∷ (codes "LEVIED"
    ∷ (codes "FUND_DIRECT" ∷ (codes "FUND_STORED" ∷ (codes "FUND_ALL" ∷ (codes "ZERO_DIRECT" ∷ (codes "ZERO_STORED" ∷ (codes "FOREIGN"
    ∷ (codes "LOOSE" ∷ []))))))))))))))

-- the values in the order of their names: the case, and what comes after it
abbrev pub values_after_case : Statement → List ℤ
values_after_case s =
    let r = s.figures in
    pos s.year ∷ (pos s.entries ∷ (pos s.import ∷ (pos s.feed_in ∷ (pos r.nettable ∷ (r.loss ∷ (pos r.levied
    ∷ (pos r.fund_direct ∷ (pos r.fund_stored ∷ (pos r.fund_all ∷ (pos r.zero_direct ∷ (pos r.zero_stored
    ∷ (pos r.foreign ∷ (pos r.loose ∷ [])))))))))))))

abbrev pub column_values : Statement → List ℤ
column_values s = pos (case_number s.case) ∷ values_after_case s

-- a filed statement has its number in one column more
abbrev pub filed_name : Option ℕ → List (List ℕ)
filed_name None = []
filed_name (Some n) = codes "FILED" ∷ []

abbrev pub filed_value : Option ℕ → List ℤ
filed_value None = []
filed_value (Some n) = pos n ∷ []

-- texts, each behind a semicolon
abbrev pub fields : List (List ℕ) → List ℕ
fields [] = []
fields (c ∷ cs) = 59 ∷ (c ++ fields cs)

-- texts separated by semicolons
abbrev pub separated : List (List ℕ) → List ℕ
separated [] = []
separated (c ∷ cs) = c ++ fields cs

-- a line: texts separated by semicolons, and a line feed
abbrev pub line : List (List ℕ) → List ℕ
line [] = 10 ∷ []
line (c ∷ cs) = c ++ (fields cs ++ (10 ∷ []))

-- the two lines of a statement, and of one that is filed under a number
unfoldable pub names_line : Option ℕ → List ℕ
names_line o = line (column_names ++ filed_name o)

unfoldable pub values_line : Statement → Option ℕ → List ℕ
values_line s o = line (map signed_decimal (column_values s ++ filed_value o))

unfoldable pub text : Statement → Option ℕ → List ℕ
text s o = names_line o ++ values_line s o

-- the text of a refusal: its number, the line that was refused, and the place that it is about
unfoldable pub refusal_text : ℕ → ℕ → ℕ → List ℕ
refusal_text number refused place =
    line (codes "REFUSAL" ∷ (codes "LINE" ∷ (codes "PLACE" ∷ []))) ++ line (decimal number ∷ (decimal refused ∷ (decimal place ∷ [])))

-- the text t, which fits 400 bytes, stands at a buffer's front, before what stood behind it; n is its length
abbrev pub Printed : List ℕ → List ℕ → ℕ → List ℕ → Type 0
Printed t was n after = (length t ≤ 400) × (n ≡ length t) × (after ≡ t ++ drop (length t) was)

-- what a print of the text t into a buffer answers, and what the buffer then holds: one with less than 400 bytes stays as it was
abbrev pub Prints : List ℕ → List ℕ → Result ℕ Short → List ℕ → Type 0
Prints t was (Ok n) after = (400 ≤ length was) × Printed t was n after
Prints t was (Err e) after = (length was < 400) × (after ≡ was)
