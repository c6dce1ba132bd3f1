use Rattle.std.proofs.Common.{◌≡◌, ◌<◌, true, false, length, get_or, map, sym, ap, ◌∙◌, arith}
use Rattle.rl_value.specs.Plain.{plains_of}
use Rattle.rl_types.specs.PlainType.{plain_type, field_type, types_of, mapping}
use Rattle.rl_types.specs.Types.{has, each_has}
use Rattle.rl_types.proofs.Fields.{field_type-out, plain_type-map}
use Rattle.rl_types.proofs.Members.{each_has-apart, each_has-more, each_has-stop, has-keys, has-no_keys}
use Rattle.rl_types.proofs.membership.+admits.Goals as goal

pub each_admitted-returns-then-fields-values : goal.each_admitted-returns-then-fields-values
each_admitted-returns-then-fields-values t c = sym (each_has-apart c.args.decls.now c.args.values.now c.args.fields.now c.if-fields-values.true)

pub each_admitted-returns-then-not-admits : goal.each_admitted-returns-then-not-admits
each_admitted-returns-then-not-admits t c =
    let d = c.args.decls.now in
    let field = c.index-fields-i.result in
    let reach : c.loop-i.i < length c.args.values.now = omega arith in
    each_has-stop d c.args.values.now c.args.fields.now c.loop-i.i c.index-values-i.result field
    (each_has d (plains_of c.args.values.now) (types_of (map field_type c.args.fields.now)))
    reach c.loop-i-test.true c.index-values-i.is c.loop-i.invariant
    (ap (has d c.index-values-i.result) (field_type-out (get_or c.args.fields.now c.loop-i.i field) ∙ ap plain_type (sym c.get.ensures)) ∙ sym c.admits.ensures ∙ c.if-not-admits.true)

pub each_admitted-loop-i-preserved : goal.each_admitted-loop-i-preserved
each_admitted-loop-i-preserved t c =
    let d = c.args.decls.now in
    let field = c.index-fields-i.result in
    let reach : c.loop-i.i < length c.args.values.now = omega arith in
    each_has-more d c.args.values.now c.args.fields.now c.loop-i.i c.index-values-i.result field
    (each_has d (plains_of c.args.values.now) (types_of (map field_type c.args.fields.now)))
    reach c.loop-i-test.true c.index-values-i.is c.loop-i.invariant
    (ap (has d c.index-values-i.result) (field_type-out (get_or c.args.fields.now c.loop-i.i field) ∙ ap plain_type (sym c.get.ensures)) ∙ sym c.admits.ensures ∙ c.if-not-admits.false)

pub admits-returns-then-map_admits_keys : goal.admits-returns-then-map_admits_keys
admits-returns-then-map_admits_keys t c =
    has-keys c.args.decls.now c.args.value.now (plain_type c.args.ty.now) (plain_type c.get-in-Map.result.now) (plain_type c.get-then-map_admits_keys.result.now)
    (ap plain_type c.in-Map.is ∙ plain_type-map c.in-Map.place c.in-Map.key c.in-Map.content ∙ (λ i. mapping (plain_type (sym c.get-in-Map.ensures i)) (plain_type (sym c.get-then-map_admits_keys.ensures i))))
    c.map_admits_keys.result c.map_admits_contents.result c.map_admits_keys.ensures c.if-map_admits_keys.true c.map_admits_contents.ensures

pub admits-returns-else-map_admits_keys : goal.admits-returns-else-map_admits_keys
admits-returns-else-map_admits_keys t c =
    has-no_keys c.args.decls.now c.args.value.now (plain_type c.args.ty.now) (plain_type c.get-in-Map.result.now) (plain_type c.in-Map.content)
    (ap plain_type c.in-Map.is ∙ plain_type-map c.in-Map.place c.in-Map.key c.in-Map.content ∙ (λ i. mapping (plain_type (sym c.get-in-Map.ensures i)) (plain_type c.in-Map.content)))
    c.map_admits_keys.result false c.map_admits_keys.ensures c.if-map_admits_keys.false
