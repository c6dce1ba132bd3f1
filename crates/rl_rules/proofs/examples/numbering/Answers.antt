use Rattle.rl_rules.proofs.Numbered.{of_names, inside_negations, same_cleared}
use Rattle.rl_rules.proofs.examples.numbering.Goals as goal

pub returns-clause-names : goal.returns-clause-names
returns-clause-names c = of_names

pub returns-clause-negations : goal.returns-clause-negations
returns-clause-negations c = inside_negations

pub returns-clause-cleared : goal.returns-clause-cleared
returns-clause-cleared c = same_cleared
