use Rattle.rl_rules.proofs.Visited.{visiting-prints}
use Rattle.rl_rules.proofs.examples.visiting.Goals as goal

pub returns : goal.returns
returns c = visiting-prints
