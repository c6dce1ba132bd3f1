use Rattle.rl_rules.proofs.Computed.{test_without_value}
use Rattle.rl_rules.proofs.examples.test_without_value.Goals as goal

pub returns : goal.returns
returns c = test_without_value
