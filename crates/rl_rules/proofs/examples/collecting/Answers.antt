use Rattle.rl_rules.proofs.Computed.{collecting}
use Rattle.rl_rules.proofs.examples.collecting.Goals as goal

pub returns : goal.returns
returns c = collecting
