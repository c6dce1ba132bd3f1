use Rattle.rl_rules.proofs.Computed.{next_alternative}
use Rattle.rl_rules.proofs.examples.next_alternative.Goals as goal

pub returns : goal.returns
returns c = next_alternative
