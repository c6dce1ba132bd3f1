use Rattle.std.proofs.Common.{◌≤◌, ◌+◌, ◌*◌, [], length}
use Rattle.rl_eval.specs.Evaluation.{eval}
use Rattle.rl_eval.specs.Frames.{weight}
use Rattle.rl_eval.proofs.Whole.{Stands}
use Rattle.rl_eval.proofs.machine.evaluate.Given as goal

-- what comes of the frames is what the form evaluates to
abbrev pub invariant-steps : goal.invariant-steps
invariant-steps g l = record {
  stands : Stands (g.O.Sink.told l.fn.out) (g.O.Sink.told l.out) l.stack.frames.items l.next l.meter (eval l.fn.form l.fn.meter []);
  counted : g.O.Sink.faults l.fn.out ≤ g.O.Sink.faults l.out;
}

-- an entry or a member takes a unit and leaves at most one frame more, and a frame that is left is gone
abbrev pub decreases-steps : goal.decreases-steps
decreases-steps g l = 4 * l.meter + 2 * length l.stack.frames.items + weight l.next
