use Rattle.rl_rules.proofs.Units.{is_by_rules}
use Rattle.rl_rules.proofs.laws.evaluation_is_by_rules.Goals as goal

pub returns : goal.returns
returns c = is_by_rules
