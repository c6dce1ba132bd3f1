use Rattle.rl_rules.proofs.Computed.{exchanging}
use Rattle.rl_rules.proofs.examples.exchanging.Goals as goal

pub returns : goal.returns
returns c = exchanging
