use Rattle.rl_rules.proofs.Computed.{counting}
use Rattle.rl_rules.proofs.examples.counting.Goals as goal

pub returns : goal.returns
returns c = counting
