use Rattle.rl_rules.proofs.Numbered.{stars_last, governing, declaring, new_holes, holes}
use Rattle.rl_rules.proofs.examples.visible_names.Goals as goal

pub returns-clause-stars : goal.returns-clause-stars
returns-clause-stars c = stars_last

pub returns-clause-conditions : goal.returns-clause-conditions
returns-clause-conditions c = governing

pub returns-clause-assignments : goal.returns-clause-assignments
returns-clause-assignments c = declaring

pub returns-clause-new_holes : goal.returns-clause-new_holes
returns-clause-new_holes c = new_holes

pub returns-clause-holes : goal.returns-clause-holes
returns-clause-holes c = holes
