use Rattle.rl_rules.proofs.Nests.{bare-by_form, conditions-by_form}
use Rattle.rl_rules.proofs.laws.parentheses_count_for_nothing.Goals as goal

pub returns-clause-parts : goal.returns-clause-parts
returns-clause-parts c = bare-by_form

pub returns-clause-conditions : goal.returns-clause-conditions
returns-clause-conditions c = conditions-by_form
