use Rattle.std.proofs.Common.{◌≡◌, take}
use Rattle.rl_arguments.proofs.sharing.shares.Given as goal

abbrev pub invariant-loop-value : goal.invariant-loop-value
invariant-loop-value l = l.shares.items ≡ take l.value-index l.values
