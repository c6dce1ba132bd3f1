use Rattle.std.proofs.Common.{◌≡◌, ◌++◌}
use Rattle.rl_sequence.proofs.sequence.Sequence.extend.Given as goal

abbrev pub invariant-loop-item : goal.invariant-loop-item
invariant-loop-item g l = l.all ++ l.item-iterator.rest.items ≡ l.fn.self ++ l.fn.items.items
