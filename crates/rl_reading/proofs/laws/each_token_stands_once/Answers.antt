use Rattle.rl_reading.proofs.Leaves.{each_token}
use Rattle.rl_reading.proofs.laws.each_token_stands_once.Goals as goal

pub returns : goal.returns
returns c = each_token
