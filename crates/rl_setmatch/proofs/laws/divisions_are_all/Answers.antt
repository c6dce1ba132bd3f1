use Rattle.rl_setmatch.proofs.Choices.{are-all, rise}
use Rattle.rl_setmatch.proofs.laws.divisions_are_all.Goals as goal

pub returns-clause-all : goal.returns-clause-all
returns-clause-all c = are-all

pub returns-clause-rise : goal.returns-clause-rise
returns-clause-rise c = rise
