use Rattle.rl_rules.proofs.After.{finally-once}
use Rattle.rl_rules.proofs.laws.finally_is_used_once.Goals as goal

pub returns : goal.returns
returns c reading p files e = finally-once reading files e p
