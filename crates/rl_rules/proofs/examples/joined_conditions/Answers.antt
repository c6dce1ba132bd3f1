use Rattle.rl_rules.proofs.Computed.{joined_conditions}
use Rattle.rl_rules.proofs.examples.joined_conditions.Goals as goal

pub returns : goal.returns
returns c = joined_conditions
