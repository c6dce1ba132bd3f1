use Rattle.rl_rules.proofs.Computed.{under_conditions}
use Rattle.rl_rules.proofs.examples.under_conditions.Goals as goal

pub returns : goal.returns
returns c = under_conditions
