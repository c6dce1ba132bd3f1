use Rattle.std.proofs.Common.{sym, ap, ◌∙◌}
use Rattle.rl_relation.specs.Pairs.{is_pair}
use Rattle.rl_relation.proofs.PairLemmas.{is_pair_parts}
use Rattle.rl_relation.proofs.pairs.is_pair.Goals as goal

pub returns-in-Tuple : goal.returns-in-Tuple
returns-in-Tuple c = sym (is_pair_parts c.in-Tuple.parts.now) ∙ ap is_pair c.in-Tuple.ensures.value
