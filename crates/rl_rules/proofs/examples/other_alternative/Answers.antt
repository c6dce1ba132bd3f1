use Rattle.rl_rules.proofs.Computed.{other_alternative}
use Rattle.rl_rules.proofs.examples.other_alternative.Goals as goal

pub returns : goal.returns
returns c = other_alternative
