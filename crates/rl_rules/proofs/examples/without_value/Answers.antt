use Rattle.rl_rules.proofs.Computed.{without_value}
use Rattle.rl_rules.proofs.examples.without_value.Goals as goal

pub returns : goal.returns
returns c = without_value
