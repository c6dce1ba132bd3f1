use Rattle.rl_types.proofs.Matchables.{may_start-tells}
use Rattle.rl_types.proofs.laws.may_start_is_a_test.Goals as goal

pub returns : goal.returns
returns c = may_start-tells
