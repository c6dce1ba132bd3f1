use Rattle.rl_rules.proofs.Computed.{changing_inside}
use Rattle.rl_rules.proofs.examples.changing_inside.Goals as goal

pub returns : goal.returns
returns c = changing_inside
