use Rattle.std.proofs.Common.{◌≡◌, ◌∷◌, ◌++◌, map, length, take, get_or, pos, ap, ◌∙◌, append_assoc, arith, length-append, to_z, of_z, rules}
use Rattle.std.specs.Int.{w128}
use Rattle.std.specs.Fmt.{signed_decimal}
use Rattle.std.proofs.lemmas.Int.{to_z-of_z}
use Rattle.statements.specs.Printed.{fields}
use Rattle.statements.proofs.Fields.{fields_step, fields_room}
use Rattle.statements.proofs.text.push_fields.Goals as goal

pub push_field-requires : goal.push_field-requires
push_field-requires c =
    let values = c.args.values.now in
    let i = c.loop-value.value-index in
    let same : to_z w128 (of_z w128 (get_or values i (pos 0))) ≡ get_or values i (pos 0) = to_z-of_z w128 (get_or values i (pos 0)) (search rules) in
    rw same (omega (arith, c.requires, ap length c.loop-value.invariant, length-append c.args.text.now.bytes (fields (map signed_decimal (take i values))), fields_room signed_decimal values i (pos 0) c.loop-value-test.true))

pub loop-value-preserved : goal.loop-value-preserved
loop-value-preserved c =
    let values = c.args.values.now in
    let i = c.loop-value.value-index in
    let was = c.args.text.now.bytes in
    let same : to_z w128 (of_z w128 (get_or values i (pos 0))) ≡ get_or values i (pos 0) = to_z-of_z w128 (get_or values i (pos 0)) (search rules) in
    c.push_field.ensures ∙ ap (λ v. c.loop-value.text.bytes ++ (59 ∷ signed_decimal v)) same
    ∙ ap (λ l. l ++ (59 ∷ signed_decimal (get_or values i (pos 0)))) c.loop-value.invariant
    ∙ append_assoc was (fields (map signed_decimal (take i values))) (59 ∷ signed_decimal (get_or values i (pos 0)))
    ∙ ap (λ l. was ++ l) (fields_step signed_decimal values i (pos 0) c.loop-value-test.true)
