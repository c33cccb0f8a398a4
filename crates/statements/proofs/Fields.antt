-- Fields behind semicolons, one after another.
use Rattle.std.proofs.Common.{◌≡◌, ℕ, ◌+◌, ◌<◌, ◌≤◌, List, [], ◌∷◌, ◌++◌, map, length, get_or, take, drop, decimal, ℤ, Option, sym, refl, ap, ◌∙◌, append_assoc, append-nil, arith, length-append}
use Rattle.std.proofs.lemmas.List.{take-append-drop, take_more, map-append}
use Rattle.std.specs.Fmt.{signed_decimal}
use Rattle.entries.specs.Cases.{case_number}
use Rattle.statements.specs.declared.statement.Statement.{Statement}
use Rattle.statements.specs.Printed.{fields, separated, column_values, values_after_case, filed_value, names_line, values_line, text}

-- fields after fields
pub fields_more : (cs ds : List (List ℕ)) → fields (cs ++ ds) ≡ fields cs ++ fields ds
fields_more [] ds = refl
fields_more (c ∷ cs) ds = ap (λ l. 59 ∷ l) (ap (λ l. c ++ l) (fields_more cs ds) ∙ sym (append_assoc c (fields cs) (fields ds)))

module _ (s : Statement) (n : ℕ) (vs : List ℤ) (number : n ≡ case_number s.case) (values : vs ≡ values_after_case s) where
  -- the values of a statement: the number of its case, and what comes after it
  values_parts : decimal n ++ fields (map signed_decimal vs) ≡ separated (map signed_decimal (column_values s))
  values_parts = ap (λ m. decimal m ++ fields (map signed_decimal vs)) number ∙ ap (λ l. decimal (case_number s.case) ++ fields (map signed_decimal l)) values

  -- behind what stands already
  pub values_behind : (was : List ℕ) → was ++ decimal n ++ fields (map signed_decimal vs) ≡ was ++ separated (map signed_decimal (column_values s))
  values_behind was = append_assoc was (decimal n) (fields (map signed_decimal vs)) ∙ ap (λ l. was ++ l) values_parts

  -- and how long they are without that
  pub length_values : length (decimal n) + length (fields (map signed_decimal vs)) ≡ length (separated (map signed_decimal (column_values s)))
  length_values = sym (length-append (decimal n) (fields (map signed_decimal vs))) ∙ ap length values_parts

-- the lemmas for values that are appended
pub ruleset valuing = (length-append, values_behind, length_values)

-- the text of a statement: the line of names, the values, the number that it is filed under, and a line feed
pub text_parts : (s : Statement) (o : Option ℕ) → names_line o ++ separated (map signed_decimal (column_values s)) ++ fields (map signed_decimal (filed_value o)) ++ (10 ∷ []) ≡ text s o
unfolding text values_line
text_parts s o =
    let first = decimal (case_number s.case) in
    let front = map signed_decimal (values_after_case s) in
    let back = map signed_decimal (filed_value o) in
    let joined : first ++ (fields front ++ (fields back ++ (10 ∷ []))) ≡ values_line s o =
    ap (λ l. first ++ l)
    (sym (append_assoc (fields front) (fields back) (10 ∷ []))
    ∙ ap (λ l. l ++ (10 ∷ [])) (sym (ap fields (map-append signed_decimal (values_after_case s) (filed_value o)) ∙ fields_more front back))) in
    append_assoc (names_line o ++ (first ++ fields front)) (fields back) (10 ∷ [])
    ∙ append_assoc (names_line o) (first ++ fields front) (fields back ++ (10 ∷ []))
    ∙ ap (λ l. names_line o ++ l) (append_assoc first (fields front) (fields back ++ (10 ∷ [])) ∙ joined)

-- and how long it is
pub length_text : (s : Statement) (o : Option ℕ) → length (text s o) ≡ length (names_line o) + length (separated (map signed_decimal (column_values s))) + length (fields (map signed_decimal (filed_value o))) + 1
length_text s o =
    let values = separated (map signed_decimal (column_values s)) in
    let back = fields (map signed_decimal (filed_value o)) in
    omega (arith, ap length (text_parts s o), length-append (names_line o) values, length-append (names_line o ++ values) back, length-append (names_line o ++ values ++ back) (10 ∷ []))

module _ {X : Type 0} (f : X → List ℕ) (xs : List X) (i : ℕ) (d : X) (h : i < length xs) where
  -- one field more
  pub fields_step : fields (map f (take i xs)) ++ (59 ∷ f (get_or xs i d)) ≡ fields (map f (take (i + 1) xs))
  fields_step =
      let x = get_or xs i d in
      sym (ap (λ l. fields (map f l)) (take_more xs i d h) ∙ ap fields (map-append f (take i xs) (x ∷ [])) ∙ fields_more (map f (take i xs)) (f x ∷ [])
      ∙ ap (λ l. fields (map f (take i xs)) ++ (59 ∷ l)) (append-nil (f x)))

  -- there is room for it where there is room for all
  pub fields_room : length (fields (map f (take i xs))) + (1 + length (f (get_or xs i d))) ≤ length (fields (map f xs))
  fields_room =
      let front = take (i + 1) xs in
      let back = drop (i + 1) xs in
      let whole : fields (map f xs) ≡ fields (map f front) ++ fields (map f back) = ap (λ l. fields (map f l)) (sym (take-append-drop (i + 1) xs)) ∙ ap fields (map-append f front back) ∙ fields_more (map f front) (map f back) in
      omega (arith, ap length whole, length-append (fields (map f front)) (fields (map f back)), ap length fields_step, length-append (fields (map f (take i xs))) (59 ∷ f (get_or xs i d)))
