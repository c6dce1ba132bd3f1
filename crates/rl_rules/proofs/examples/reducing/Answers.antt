use Rattle.rl_rules.proofs.Computed.{reducing}
use Rattle.rl_rules.proofs.examples.reducing.Goals as goal

pub returns : goal.returns
returns c = reducing
