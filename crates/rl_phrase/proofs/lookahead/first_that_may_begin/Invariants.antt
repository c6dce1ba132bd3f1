use Rattle.std.proofs.Common.{◌-◌}
use Rattle.rl_phrase.specs.Lookahead.{ArePassed}
use Rattle.rl_phrase.proofs.lookahead.first_that_may_begin.Given as goal

abbrev pub invariant-loop-next : goal.invariant-loop-next
invariant-loop-next l = ArePassed l.tokens l.firsts l.token l.rest.next l.next l.rest.end

abbrev pub decreases-loop-next : goal.decreases-loop-next
decreases-loop-next l = l.rest.end - l.next
