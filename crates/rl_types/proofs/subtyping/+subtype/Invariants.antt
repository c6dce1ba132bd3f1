use Rattle.std.proofs.Common.{◌≡◌, map, drop}
use Rattle.rl_types.specs.PlainType.{field_type, types_of}
use Rattle.rl_types.specs.Types.{subtypes}
use Rattle.rl_types.proofs.subtyping.+subtype.Given as goal

abbrev pub invariant-are_below-loop-i : goal.invariant-are_below-loop-i
invariant-are_below-loop-i l =
    subtypes l.decls (types_of (map field_type (drop l.i l.a))) (types_of (map field_type (drop l.i l.b)))
    ≡ subtypes l.decls (types_of (map field_type l.a)) (types_of (map field_type l.b))
