use Rattle.rl_visit.proofs.Breaks.{nothing-below, nothing-above}
use Rattle.rl_visit.proofs.laws.break_strategies_stop.Goals as goal

pub returns-clause-below : goal.returns-clause-below
returns-clause-below c = nothing-below

pub returns-clause-above : goal.returns-clause-above
returns-clause-above c = nothing-above
