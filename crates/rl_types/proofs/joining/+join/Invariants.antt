use Rattle.std.proofs.Common.{◌≡◌, ◌++◌, map, drop}
use Rattle.rl_types.specs.PlainType.{field_type}
use Rattle.rl_types.proofs.Fields.{list_joins}
use Rattle.rl_types.proofs.joining.+join.Given as goal

abbrev pub invariant-join_fields-loop-i : goal.invariant-join_fields-loop-i
invariant-join_fields-loop-i l = map field_type l.joined.items ++ list_joins l.decls (drop l.i l.fields) (drop l.i l.others) ≡ list_joins l.decls l.fields l.others
