use Rattle.rl_rules.proofs.Fronts.{fronts-after, fronts-by-rules, eval-has, run-has}
use Rattle.rl_rules.proofs.laws.fronts_are_by_rules.Goals as goal

pub returns-clause-forms : goal.returns-clause-forms
returns-clause-forms c = fronts-by-rules

pub returns-clause-joined : goal.returns-clause-joined
returns-clause-joined c = fronts-after

pub returns-clause-begin : goal.returns-clause-begin
returns-clause-begin c = eval-has

pub returns-clause-runs : goal.returns-clause-runs
returns-clause-runs c = run-has
