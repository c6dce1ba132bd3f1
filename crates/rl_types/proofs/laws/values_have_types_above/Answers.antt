use Rattle.rl_types.proofs.Having.{has-above}
use Rattle.rl_types.proofs.laws.values_have_types_above.Goals as goal

pub returns : goal.returns
returns c = has-above
