use Rattle.std.proofs.Common.{◌≡◌, map, drop}
use Rattle.rl_value.specs.Plain.{plains_of, pairs_of}
use Rattle.rl_value.specs.View.{pair_of}
use Rattle.rl_types.specs.PlainType.{plain_type, field_type, types_of, tuple, value}
use Rattle.rl_types.specs.Types.{all_have, each_has, pairs_have}
use Rattle.rl_types.proofs.membership.+admits.Given as goal

abbrev pub invariant-all_admitted-loop-value : goal.invariant-all_admitted-loop-value
invariant-all_admitted-loop-value l = all_have l.decls (plains_of (drop l.value-index l.values)) (plain_type l.ty) ≡ all_have l.decls (plains_of l.values) (plain_type l.ty)

abbrev pub invariant-all_tuples_admitted-loop-value : goal.invariant-all_tuples_admitted-loop-value
invariant-all_tuples_admitted-loop-value l =
    all_have l.decls (plains_of (drop l.value-index l.values)) (tuple (types_of (map field_type l.fields)))
    ≡ all_have l.decls (plains_of l.values) (tuple (types_of (map field_type l.fields)))

abbrev pub invariant-keys_admitted-loop-entry : goal.invariant-keys_admitted-loop-entry
invariant-keys_admitted-loop-entry l =
    pairs_have l.decls (pairs_of (map pair_of (drop l.entry-index l.entries))) (plain_type l.key) value
    ≡ pairs_have l.decls (pairs_of (map pair_of l.entries)) (plain_type l.key) value

abbrev pub invariant-contents_admitted-loop-entry : goal.invariant-contents_admitted-loop-entry
invariant-contents_admitted-loop-entry l =
    pairs_have l.decls (pairs_of (map pair_of (drop l.entry-index l.entries))) value (plain_type l.content)
    ≡ pairs_have l.decls (pairs_of (map pair_of l.entries)) value (plain_type l.content)

abbrev pub invariant-each_admitted-loop-i : goal.invariant-each_admitted-loop-i
invariant-each_admitted-loop-i l =
    each_has l.decls (plains_of (drop l.i l.values)) (types_of (map field_type (drop l.i l.fields)))
    ≡ each_has l.decls (plains_of l.values) (types_of (map field_type l.fields))
