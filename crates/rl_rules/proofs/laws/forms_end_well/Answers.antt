use Rattle.rl_rules.proofs.EndsOfForms.{eval-ends_well}
use Rattle.rl_rules.proofs.laws.forms_end_well.Goals as goal

pub returns : goal.returns
returns c = eval-ends_well
