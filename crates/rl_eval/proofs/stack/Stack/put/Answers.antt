use Rattle.rl_eval.proofs.StepLemmas.{put-goes}
use Rattle.rl_eval.proofs.stack.Stack.put.Goals as goal

pub returns : goal.returns
returns c = put-goes _ c.args.piece _
