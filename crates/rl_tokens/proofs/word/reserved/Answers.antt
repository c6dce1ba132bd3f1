use Rattle.std.proofs.Common.{◌∙◌, refl}
use Rattle.rl_tokens.proofs.word.reserved.Goals as goal

pub returns : goal.returns
returns c = c.lookup.ensures ∙ c.words_of.ensures c.args.word.now refl
