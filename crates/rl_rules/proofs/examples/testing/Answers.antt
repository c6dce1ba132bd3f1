use Rattle.rl_rules.proofs.Computed.{testing}
use Rattle.rl_rules.proofs.examples.testing.Goals as goal

pub returns : goal.returns
returns c = testing
