use Rattle.rl_eval.proofs.StepLemmas.{use-goes}
use Rattle.rl_eval.proofs.stack.Stack.use_form.Goals as goal

pub returns : goal.returns
returns c = use-goes _ _ c.args.form c.args.frame c.in_ok-push.ensures.items
