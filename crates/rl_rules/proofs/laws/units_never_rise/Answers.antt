use Rattle.rl_rules.proofs.Runs.{derivation-leaves}
use Rattle.rl_rules.proofs.Units.{eval-never_gains}
use Rattle.rl_rules.proofs.laws.units_never_rise.Goals as goal

pub returns-clause-forms : goal.returns-clause-forms
returns-clause-forms c = eval-never_gains

pub returns-clause-runs : goal.returns-clause-runs
returns-clause-runs c = derivation-leaves
