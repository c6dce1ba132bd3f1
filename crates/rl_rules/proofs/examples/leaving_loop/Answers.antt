use Rattle.rl_rules.proofs.Computed.{leaving_loop}
use Rattle.rl_rules.proofs.examples.leaving_loop.Goals as goal

pub returns : goal.returns
returns c = leaving_loop
