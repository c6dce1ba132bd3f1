use Rattle.rl_rules.proofs.Computed.{fixed_at_start}
use Rattle.rl_rules.proofs.examples.fixed_at_start.Goals as goal

pub returns : goal.returns
returns c = fixed_at_start
