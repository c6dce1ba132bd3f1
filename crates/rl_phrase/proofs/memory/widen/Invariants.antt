use Rattle.std.proofs.Common.{◌-◌, suc, vec_len}
use Rattle.rl_phrase.proofs.memory.widen.Given as goal

abbrev pub decreases-loop-columns : goal.decreases-loop-columns
decreases-loop-columns l = suc l.column - vec_len l.columns
