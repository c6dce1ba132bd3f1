use Rattle.rl_eval.proofs.StepLemmas.{give-goes}
use Rattle.rl_eval.proofs.stack.Stack.give.Goals as goal

pub returns : goal.returns
returns c = give-goes _ _
