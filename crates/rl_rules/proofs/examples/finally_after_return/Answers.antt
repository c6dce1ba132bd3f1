use Rattle.rl_rules.proofs.Computed.{finally_after_return}
use Rattle.rl_rules.proofs.examples.finally_after_return.Goals as goal

pub returns : goal.returns
returns c = finally_after_return
