use Rattle.rl_rules.proofs.More.{eval-more}
use Rattle.rl_rules.proofs.Runs.{derivation-more}
use Rattle.rl_rules.proofs.laws.more_units_go_on.Goals as goal

pub returns-clause-forms : goal.returns-clause-forms
returns-clause-forms c = eval-more

pub returns-clause-runs : goal.returns-clause-runs
returns-clause-runs c = derivation-more
