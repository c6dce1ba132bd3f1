use Rattle.rl_match.proofs.Outside.{only_tests}
use Rattle.rl_match.proofs.laws.only_tests_are_seen.Goals as goal

pub returns : goal.returns
returns c = only_tests
