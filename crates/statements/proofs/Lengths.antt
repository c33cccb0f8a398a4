-- How long a statement's text can be.
use Rattle.std.proofs.Common.{◌≡◌, ℕ, ◌+◌, ◌^◌, ◌<◌, ◌≤◌, List, [], ◌∷◌, ◌++◌, map, length, pos, Some, None, decimal, Option, refl, ap, ◌∙◌, arith, length-append, w64, SFits}
use Rattle.std.specs.Fmt.{signed_decimal}
use Rattle.std.proofs.lemmas.List.{map-append}
use Rattle.std.proofs.lemmas.Fmt.{length-decimal-le, length_signed_le}
use Rattle.entries.specs.Cases.{case_number}
use Rattle.entries.specs.declared.case.Case.{Case}
use Rattle.entries.specs.declared.case.Case.TheVariants.{Storage, ChargePoint, Both, BothMetered}
use Rattle.statements.specs.declared.statement.Statement.{Statement}
use Rattle.statements.specs.Statements.{Sound, Filing}
use Rattle.statements.specs.Printed.{column_values, values_after_case, filed_value, fields, separated, line, names_line, values_line, text, refusal_text}
use Rattle.statements.proofs.Fields.{text_parts, length_text}

-- the lengths of texts, each with a semicolon
abbrev pub widths : List (List ℕ) → ℕ
widths [] = 0
widths (c ∷ cs) = 1 + length c + widths cs

pub length_fields : (cs : List (List ℕ)) → length (fields cs) ≡ widths cs
length_fields [] = refl
length_fields (c ∷ cs) = omega (arith, length-append c (fields cs), length_fields cs)

-- a line is as long as its texts, with a byte for each
length_line : (c : List ℕ) (cs : List (List ℕ)) → length (line (c ∷ cs)) ≡ widths (c ∷ cs)
length_line c cs = omega (arith, length-append c (fields cs ++ (10 ∷ [])), length-append (fields cs) (10 ∷ []), length_fields cs)

pub at_most_twenty : (n : ℕ) → n < 2 ^ 64 → length (decimal n) ≤ 20
at_most_twenty n h = length-decimal-le 20 n (omega arith) (omega arith) h

case_below : (c : Case) → case_number c < 10
case_below Storage = omega arith
case_below ChargePoint = omega arith
case_below Both = omega arith
case_below BothMetered = omega arith

-- the names, and the number that a statement is filed under
filed_short : (o : Option ℕ) → Filing o → length (names_line o) + widths (map signed_decimal (filed_value o)) ≤ 131
unfolding names_line
filed_short None h = omega arith
filed_short (Some n) h = omega (arith, length-decimal-le 6 n (omega arith) (grind arith) (grind arith))

-- the widths of the first columns and of those after
widths_more : (cs ds : List (List ℕ)) → widths (cs ++ ds) ≡ widths cs + widths ds
widths_more [] ds = omega arith
widths_more (c ∷ cs) ds = omega (arith, widths_more cs ds)

-- every number of a statement fits 64 bits
pub record Fitting (s : Statement) : Type 0 where
  pub year : s.year < 2 ^ 64
  pub entries : s.entries < 2 ^ 64
  pub import : s.import < 2 ^ 64
  pub feed_in : s.feed_in < 2 ^ 64
  pub nettable : s.figures.nettable < 2 ^ 64
  pub loss : SFits w64 s.figures.loss
  pub levied : s.figures.levied < 2 ^ 64
  pub fund_direct : s.figures.fund_direct < 2 ^ 64
  pub fund_stored : s.figures.fund_stored < 2 ^ 64
  pub fund_all : s.figures.fund_all < 2 ^ 64
  pub zero_direct : s.figures.zero_direct < 2 ^ 64
  pub zero_stored : s.figures.zero_stored < 2 ^ 64
  pub foreign : s.figures.foreign < 2 ^ 64
  pub loose : s.figures.loose < 2 ^ 64

-- the values have few enough bytes for a text
pub values_fit : (s : Statement) → Fitting s → length (separated (map signed_decimal (column_values s))) ≤ 315
values_fit s w =
    let r = s.figures in
    omega (
      arith,
      length-append (decimal (case_number s.case)) (fields (map signed_decimal (values_after_case s))),
      length_fields (map signed_decimal (values_after_case s)),
      length-decimal-le 1 (case_number s.case) (omega arith) (omega (arith, case_below s.case)) (omega (arith, case_below s.case)),
      at_most_twenty s.year w.year,
      at_most_twenty s.entries w.entries,
      at_most_twenty s.import w.import,
      at_most_twenty s.feed_in w.feed_in,
      at_most_twenty r.nettable w.nettable,
      length_signed_le 19 r.loss (omega (arith, w.loss.sfits)) w.loss.sfits,
      at_most_twenty r.levied w.levied,
      at_most_twenty r.fund_direct w.fund_direct,
      at_most_twenty r.fund_stored w.fund_stored,
      at_most_twenty r.fund_all w.fund_all,
      at_most_twenty r.zero_direct w.zero_direct,
      at_most_twenty r.zero_stored w.zero_stored,
      at_most_twenty r.foreign w.foreign,
      at_most_twenty r.loose w.loose,
    )

-- the numbers that nothing else bounds fit 64 bits
pub record Narrow (s : Statement) : Type 0 where
  pub year : s.year < 2 ^ 64
  pub entries : s.entries < 2 ^ 64
  pub loss : SFits w64 s.figures.loss
  pub levied : s.figures.levied < 2 ^ 64
  pub fund : s.figures.fund_all < 2 ^ 64

module _ (s : Statement) (sound : Sound s) (narrow : Narrow s) where
  -- an amount that is part of the import or the feed-in has at most ten digits
  ten : (n : ℕ) → n ≤ 3000000000 → length (decimal n) ≤ 10
  ten n h = length-decimal-le 10 n (omega arith) (omega arith) (omega arith)

  values_short : widths (map signed_decimal (column_values s)) ≤ 197
  values_short =
      let r = s.figures in
      omega (
        arith,
        length-decimal-le 1 (case_number s.case) (omega arith) (omega (arith, case_below s.case)) (omega (arith, case_below s.case)),
        at_most_twenty s.year narrow.year,
        at_most_twenty s.entries narrow.entries,
        at_most_twenty r.levied narrow.levied,
        at_most_twenty r.fund_all narrow.fund,
        length_signed_le 19 r.loss (omega (arith, narrow.loss.sfits)) narrow.loss.sfits,
        ten s.import (omega arith),
        ten s.feed_in (omega arith),
        ten r.nettable (omega arith),
        ten r.fund_direct (omega arith),
        ten r.fund_stored (omega arith),
        ten r.zero_direct (omega arith),
        ten r.zero_stored (omega arith),
        ten r.foreign (omega arith),
        length-decimal-le 1 r.loose (omega arith) (omega arith) (omega arith),
      )

  -- every statement's text fits 400 bytes, filed or not
  pub text_fits : (o : Option ℕ) → Filing o → length (text s o) ≤ 400
  unfolding text values_line
  text_fits o h =
      let values : length (values_line s o) ≡ widths (map signed_decimal (column_values s)) + widths (map signed_decimal (filed_value o)) = length_line (signed_decimal (pos (case_number s.case))) (map signed_decimal (values_after_case s ++ filed_value o)) ∙ ap widths (map-append signed_decimal (column_values s) (filed_value o)) ∙ widths_more (map signed_decimal (column_values s)) (map signed_decimal (filed_value o)) in
      omega (arith, length-append (names_line o) (values_line s o), values, values_short, filed_short o h)

  -- and so do its parts, one after another
  pub parts_fit : (o : Option ℕ) → Filing o → length (names_line o) + length (separated (map signed_decimal (column_values s))) + length (fields (map signed_decimal (filed_value o))) + 1 ≤ 400
  parts_fit o h = omega (arith, text_fits o h, length_text s o)

-- the lemmas for a text that is put together from its parts
pub ruleset joining = (length-append, parts_fit, text_parts)

-- and so does that of a refusal
pub refusal_fits : (n l p : ℕ) → n < 2 ^ 64 → l < 2 ^ 64 → p < 2 ^ 64 → length (refusal_text n l p) ≤ 400
unfolding refusal_text
refusal_fits n l p hn hl hp =
    omega (arith, length_line (decimal n) (decimal l ∷ (decimal p ∷ [])), at_most_twenty n hn, at_most_twenty l hl, at_most_twenty p hp)
