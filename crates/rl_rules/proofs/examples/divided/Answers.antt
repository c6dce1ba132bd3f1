use Rattle.rl_rules.proofs.Computed.{divided}
use Rattle.rl_rules.proofs.examples.divided.Goals as goal

pub returns : goal.returns
returns c = divided
