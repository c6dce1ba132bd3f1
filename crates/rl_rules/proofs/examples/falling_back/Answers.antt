use Rattle.rl_rules.proofs.Computed.{falling_back}
use Rattle.rl_rules.proofs.examples.falling_back.Goals as goal

pub returns : goal.returns
returns c = falling_back
