use Rattle.rl_rules.proofs.Growth.{eval-goes_on}
use Rattle.rl_rules.proofs.Runs.{derivation-goes_on}
use Rattle.rl_rules.proofs.laws.printed_stays_printed.Goals as goal

pub returns-clause-forms : goal.returns-clause-forms
returns-clause-forms c = eval-goes_on

pub returns-clause-runs : goal.returns-clause-runs
returns-clause-runs c = derivation-goes_on
