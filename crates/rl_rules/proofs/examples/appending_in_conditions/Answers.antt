use Rattle.rl_rules.proofs.Visited.{appending_in_conditions-prints}
use Rattle.rl_rules.proofs.examples.appending_in_conditions.Goals as goal

pub returns : goal.returns
returns c = appending_in_conditions-prints
