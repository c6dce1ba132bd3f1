use Rattle.rl_rules.proofs.Computed.{finally_at_a_cut}
use Rattle.rl_rules.proofs.examples.finally_at_a_cut.Goals as goal

pub returns : goal.returns
returns c = finally_at_a_cut
