use Rattle.rl_rules.proofs.Computed.{extending}
use Rattle.rl_rules.proofs.examples.extending.Goals as goal

pub returns : goal.returns
returns c = extending
