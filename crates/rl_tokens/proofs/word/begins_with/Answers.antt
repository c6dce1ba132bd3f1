use Rattle.std.proofs.Common.{◌∙◌, sym, arith}
use Rattle.rl_tokens.proofs.WordLemmas.{begins_short}
use Rattle.rl_tokens.proofs.word.begins_with.Goals as goal

pub returns-then-text-k-clause-value : goal.returns-then-text-k-clause-value
returns-then-text-k-clause-value c =
    sym (begins_short c.args.word.now c.args.text.now c.loop-k.k (omega arith) (omega arith)) ∙ c.loop-k.invariant.0
