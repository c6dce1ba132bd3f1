use Rattle.rl_rules.proofs.Visited.{six_strategies-prints}
use Rattle.rl_rules.proofs.examples.six_strategies.Goals as goal

pub returns : goal.returns
returns c = six_strategies-prints
