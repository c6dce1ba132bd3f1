use Rattle.rl_rules.proofs.Computed.{false_condition}
use Rattle.rl_rules.proofs.examples.false_condition.Goals as goal

pub returns : goal.returns
returns c = false_condition
