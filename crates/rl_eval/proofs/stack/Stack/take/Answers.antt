use Rattle.rl_eval.proofs.StepLemmas.{take-goes}
use Rattle.rl_eval.proofs.stack.Stack.take.Goals as goal

pub returns : goal.returns
returns c = take-goes _ c.args.member
