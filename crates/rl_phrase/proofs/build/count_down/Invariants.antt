use Rattle.std.proofs.Common.{◌≡◌, length}
use Rattle.rl_phrase.specs.Build.{one_less}
use Rattle.rl_phrase.proofs.build.count_down.Given as goal

abbrev pub invariant-nodes : goal.invariant-nodes
invariant-nodes l = one_less l.above ≡ one_less l.initial.above

abbrev pub decreases-nodes : goal.decreases-nodes
decreases-nodes l = length l.above
