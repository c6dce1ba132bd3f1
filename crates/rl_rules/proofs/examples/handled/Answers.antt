use Rattle.rl_rules.proofs.Computed.{handled}
use Rattle.rl_rules.proofs.examples.handled.Goals as goal

pub returns : goal.returns
returns c = handled
