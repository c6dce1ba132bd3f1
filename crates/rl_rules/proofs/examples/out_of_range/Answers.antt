use Rattle.rl_rules.proofs.Computed.{out_of_range}
use Rattle.rl_rules.proofs.examples.out_of_range.Goals as goal

pub returns : goal.returns
returns c = out_of_range
