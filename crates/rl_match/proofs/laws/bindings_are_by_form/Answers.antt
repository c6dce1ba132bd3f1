use Rattle.rl_match.proofs.Levels.{bindings-by_form, variables-by_form}
use Rattle.rl_match.proofs.laws.bindings_are_by_form.Goals as goal

pub returns-clause-bindings : goal.returns-clause-bindings
returns-clause-bindings c = bindings-by_form

pub returns-clause-variables : goal.returns-clause-variables
returns-clause-variables c = variables-by_form
