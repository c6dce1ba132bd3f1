use Rattle.rl_rules.proofs.Computed.{solving}
use Rattle.rl_rules.proofs.examples.solving.Goals as goal

pub returns : goal.returns
returns c = solving
