use Rattle.std.proofs.Common.{◌∙◌, rules}
use Rattle.rl_words.proofs.Numbers.{number-parsed}
use Rattle.rl_words.proofs.words.number.Goals as goal

pub returns : goal.returns
returns c = c.ok.ensures.value ∙ number-parsed c.args.digits.now c.parse.result c.parse.ensures.value.0 (search rules)
