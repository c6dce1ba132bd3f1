use Rattle.rl_rules.proofs.Visited.{appending_in_tests-prints}
use Rattle.rl_rules.proofs.examples.appending_in_tests.Goals as goal

pub returns : goal.returns
returns c = appending_in_tests-prints
