use Rattle.rl_rules.proofs.Computed.{taken_back}
use Rattle.rl_rules.proofs.examples.taken_back.Goals as goal

pub returns : goal.returns
returns c = taken_back
