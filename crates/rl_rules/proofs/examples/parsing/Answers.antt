use Rattle.rl_rules.proofs.Computed.{parsing}
use Rattle.rl_rules.proofs.examples.parsing.Goals as goal

pub returns : goal.returns
returns c = parsing
