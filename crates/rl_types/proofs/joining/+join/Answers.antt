use Rattle.std.proofs.Common.{map, sym, ap, ◌∙◌}
use Rattle.rl_types.specs.PlainType.{tuple, types_of, field_type, plain_type}
use Rattle.rl_types.specs.Types.{join}
use Rattle.rl_types.proofs.Fields.{join-tuples, join-apart, list_joins-end}
use Rattle.rl_types.proofs.Leaves.{plain_type-bool, plain_type-int, plain_type-str, plain_type-loc, plain_type-value}
use Rattle.rl_types.proofs.joining.+join.Goals as goal

pub least_above-returns-in-Bool : goal.least_above-returns-in-Bool
least_above-returns-in-Bool t c =
    c.above_bool.ensures c.args.decls.now ∙ ap (λ T. join c.args.decls.now T (plain_type c.args.b.now)) (sym (ap plain_type c.in-Bool.is ∙ plain_type-bool c.in-Bool.place))

pub least_above-returns-in-Int : goal.least_above-returns-in-Int
least_above-returns-in-Int t c =
    c.above_int.ensures c.args.decls.now ∙ ap (λ T. join c.args.decls.now T (plain_type c.args.b.now)) (sym (ap plain_type c.in-Int.is ∙ plain_type-int c.in-Int.place))

pub least_above-returns-in-Str : goal.least_above-returns-in-Str
least_above-returns-in-Str t c =
    c.above_str.ensures c.args.decls.now ∙ ap (λ T. join c.args.decls.now T (plain_type c.args.b.now)) (sym (ap plain_type c.in-Str.is ∙ plain_type-str c.in-Str.place))

pub least_above-returns-in-Loc : goal.least_above-returns-in-Loc
least_above-returns-in-Loc t c =
    c.above_loc.ensures c.args.decls.now ∙ ap (λ T. join c.args.decls.now T (plain_type c.args.b.now)) (sym (ap plain_type c.in-Loc.is ∙ plain_type-loc c.in-Loc.place))

pub above_tuples-returns-in_ok-joined : goal.above_tuples-returns-in_ok-joined
above_tuples-returns-in_ok-joined t c =
    c.tuple_of.ensures ∙ ap (λ xs. tuple (types_of (map field_type xs))) c.in_ok-joined.ensures ∙ ap tuple c.in_ok-join_fields.ensures
    ∙ sym (join-tuples c.args.decls.now c.args.fields.now c.args.others.now c.if-fields-others.true)

pub above_tuples-returns-else-fields-others : goal.above_tuples-returns-else-fields-others
above_tuples-returns-else-fields-others t c =
    plain_type-value c.args.place ∙ sym (join-apart c.args.decls.now c.args.fields.now c.args.others.now c.if-fields-others.false)

pub join_fields-returns : goal.join_fields-returns
join_fields-returns t c = list_joins-end c.args.decls.now c.args.fields.now c.args.others.now c.loop-i.i (map field_type c.loop-i.joined.items) c.loop-i-test.false c.loop-i.invariant
