use Rattle.std.proofs.Common.{◌≡◌, ◌++◌, take}
use Rattle.rl_operators.proofs.lists.share_into.Given as goal

abbrev pub invariant-loop-value : goal.invariant-loop-value
invariant-loop-value l = l.shared.items ≡ l.initial.shared.items ++ take l.value-index l.values
