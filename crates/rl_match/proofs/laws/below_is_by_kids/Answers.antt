use Rattle.rl_match.proofs.Kids.{by_kids}
use Rattle.rl_match.proofs.laws.below_is_by_kids.Goals as goal

pub returns : goal.returns
returns c = by_kids
