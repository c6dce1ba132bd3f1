use Rattle.rl_rules.proofs.Computed.{second_handler}
use Rattle.rl_rules.proofs.examples.second_handler.Goals as goal

pub returns : goal.returns
returns c = second_handler
