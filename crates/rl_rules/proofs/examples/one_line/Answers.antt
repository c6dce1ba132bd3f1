use Rattle.rl_rules.proofs.Computed.{one_line}
use Rattle.rl_rules.proofs.examples.one_line.Goals as goal

pub returns : goal.returns
returns c = one_line
