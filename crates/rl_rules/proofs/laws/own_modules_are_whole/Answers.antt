use Rattle.rl_rules.proofs.OwnModules.{own-whole}
use Rattle.rl_rules.proofs.laws.own_modules_are_whole.Goals as goal

pub returns : goal.returns
returns c = own-whole
