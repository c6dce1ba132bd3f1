use Rattle.std.proofs.Common.{take}
use Rattle.rl_relation.proofs.ClosureLemmas.{Gathers}
use Rattle.rl_relation.proofs.closures.joined_pairs.Given as goal

abbrev pub invariant-loop-start : goal.invariant-loop-start
invariant-loop-start l = Gathers l.pairs (take l.start-index l.start-items) l.found.items
