use Rattle.rl_phrase.specs.State.{state_of}
use Rattle.rl_phrase.specs.Stands.{Stands}
use Rattle.rl_phrase.proofs.Runs.{Ends, most_turns, turns_left}
use Rattle.rl_phrase.proofs.search.run_machine.Given as goal

abbrev pub invariant-turns : goal.invariant-turns
invariant-turns l = record {
  stands : Stands l.tokens l.rules l.machine;
  ends : Ends l.tokens l.rules l.start (state_of l.machine);
}

abbrev pub decreases-turns : goal.decreases-turns
decreases-turns l = turns_left l.tokens l.rules (most_turns l.tokens l.rules l.start) (state_of l.machine)
