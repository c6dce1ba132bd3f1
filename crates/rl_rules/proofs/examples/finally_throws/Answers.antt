use Rattle.rl_rules.proofs.Computed.{finally_throws}
use Rattle.rl_rules.proofs.examples.finally_throws.Goals as goal

pub returns : goal.returns
returns c = finally_throws
