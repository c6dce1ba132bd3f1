use Rattle.std.proofs.Common.{◌≡◌, take, filter, not}
use Rattle.rl_value.specs.Laws.{plain_eq}
use Rattle.rl_operators.proofs.sets.elements_but.Given as goal

abbrev pub invariant-loop-y : goal.invariant-loop-y
invariant-loop-y l = l.elements.items ≡ filter (λ y. not (plain_eq y l.x)) (take l.y-index l.a)
