use Rattle.std.proofs.Common.{arith}
use Rattle.rl_relation.proofs.PairLemmas.{no_second}
use Rattle.rl_relation.proofs.pairs.second_or.Goals as goal

pub returns-else-parts-ge2 : goal.returns-else-parts-ge2
returns-else-parts-ge2 c = no_second c.args.parts.now c.args.pair.now (omega arith) c.requires
