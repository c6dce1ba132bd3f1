use Rattle.rl_rules.proofs.Computed.{deepest_call}
use Rattle.rl_rules.proofs.examples.deepest_call.Goals as goal

pub returns : goal.returns
returns c = deepest_call
