use Rattle.rl_rules.proofs.Computed.{false_under_member}
use Rattle.rl_rules.proofs.examples.false_under_member.Goals as goal

pub returns : goal.returns
returns c = false_under_member
