use Rattle.std.proofs.Common.{◌≡◌, ◌++◌, drop}
use Rattle.rl_syntax.specs.Bound.{bound, bound_in_all, bound_in_elements}
use Rattle.rl_syntax.proofs.bound.+bound.Given as goal

abbrev pub invariant-add_bound-loop-element : goal.invariant-add_bound-loop-element
invariant-add_bound-loop-element l = l.numbers.items ++ bound_in_elements (drop l.element-index l.element-items) ≡ l.initial.numbers.items ++ bound l.pattern

abbrev pub invariant-add_bound-loop-part : goal.invariant-add_bound-loop-part
invariant-add_bound-loop-part l = l.numbers.items ++ bound_in_all (drop l.part-index l.part-items) ≡ l.initial.numbers.items ++ bound l.pattern
