use Rattle.rl_types.proofs.Joins.{join-left, join-right, join-least}
use Rattle.rl_types.proofs.laws.join_is_least.Goals as goal

pub returns-clause-left : goal.returns-clause-left
returns-clause-left c = join-left

pub returns-clause-right : goal.returns-clause-right
returns-clause-right c = join-right

pub returns-clause-least : goal.returns-clause-least
returns-clause-least c = join-least
