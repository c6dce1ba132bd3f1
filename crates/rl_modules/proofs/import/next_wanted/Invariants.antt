use Rattle.rl_modules.specs.Unfinished.{SkipsTo}
use Rattle.rl_modules.proofs.import.next_wanted.Given as goal

abbrev pub invariant-loop-i : goal.invariant-loop-i
invariant-loop-i l = SkipsTo l.names l.declarations l.from l.i
