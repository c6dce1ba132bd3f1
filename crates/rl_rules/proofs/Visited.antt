-- A visit computes, but for the type of its result, which is rewritten.
use Rattle.std.proofs.Common.{◌≡◌, true, refl, ap}
use Rattle.std.specs.Prelude.{codes, pos}
use Rattle.rl_base.specs.Holds.{FileMap}
use Rattle.rl_syntax.specs.declared.ty.Ty.{out-Ty}
use Rattle.rl_syntax.specs.declared.ty.Ty.TheFolds.{fold_out-Ty}
use Rattle.rl_types.specs.PlainType.{PlainType, plain_type, plain_of_form, plain_of_field, named, int as int_plain}
use Rattle.rl_types.specs.Types.{has}
use Rattle.rl_value.specs.Plain.{Plain, node, nil, cons, int}
use denote.Hole.Carrier.{out, shown, hidden}
use Rattle.rl_rules.specs.Building.{came_of, named_type, int_type}
use Rattle.rl_rules.specs.Evaluation.{run_as, on_done}
use Rattle.rl_rules.specs.Examples.{Visiting, SixStrategies, AppendingInConditions, AppendingInBody, AppendingInTests, visiting, appending_in_body}
use Rattle.rl_rules.specs.Rule.{after, on_value}
use Rattle.rl_visit.specs.Walk.{walk}
use Rattle.rl_rules.proofs.Computing.{computing}

plain_named : plain_type (named_type (codes "T")) ≡ named (codes "T")
unfolding out-Ty out shown hidden
plain_named = fold_out-Ty PlainType PlainType plain_of_form plain_of_field (named_type (codes "T"))

-- a()
abbrev bare_a : Plain
bare_a = node (codes "a") nil

-- f(a())
abbrev with_f : Plain
with_f = node (codes "f") (cons bare_a nil)

typed : has visiting.declarations bare_a (plain_type (named_type (codes "T"))) ≡ true
unfolding has
typed = ap (has visiting.declarations bare_a) plain_named

typed_with_f : has visiting.declarations with_f (plain_type (named_type (codes "T"))) ≡ true
unfolding has
typed_with_f = ap (has visiting.declarations with_f) plain_named

plain_int : plain_type int_type ≡ int_plain
unfolding out-Ty out shown hidden
plain_int = fold_out-Ty PlainType PlainType plain_of_form plain_of_field int_type

typed_one : has appending_in_body.declarations (int (pos 1)) (plain_type int_type) ≡ true
unfolding has
typed_one = ap (has appending_in_body.declarations (int (pos 1))) plain_int

visiting_computes : Unit {0}
unfolding computing walk has
visiting_computes = tt

pub visiting-prints : (files : FileMap) → Visiting files
unfolding visiting_computes
visiting-prints files = rw (typed, came_of, on_done, run_as, after, on_value) refl

pub six_strategies-prints : (files : FileMap) → SixStrategies files
unfolding visiting_computes
six_strategies-prints files =
    rw (typed_with_f, came_of, on_done, run_as, after, on_value)
    (rw (typed_with_f, came_of, on_done, run_as, after, on_value)
    (rw (typed, came_of, on_done, run_as, after, on_value)
    (rw (typed_with_f, came_of, on_done, run_as, after, on_value)
    (rw (typed, came_of, on_done, run_as, after, on_value)
    (rw (typed, came_of, on_done, run_as, after, on_value) refl)))))

pub appending_in_conditions-prints : (files : FileMap) → AppendingInConditions files
unfolding visiting_computes
appending_in_conditions-prints files = rw (typed_one, came_of, on_done, run_as, after, on_value) refl

pub appending_in_body-prints : (files : FileMap) → AppendingInBody files
unfolding visiting_computes
appending_in_body-prints files = rw (typed_one, came_of, on_done, run_as, after, on_value) refl

pub appending_in_tests-prints : (files : FileMap) → AppendingInTests files
unfolding visiting_computes
appending_in_tests-prints files = (rw (typed_one, came_of, on_done, run_as, after, on_value) refl, rw (typed_one, came_of, on_done, run_as, after, on_value) refl)
