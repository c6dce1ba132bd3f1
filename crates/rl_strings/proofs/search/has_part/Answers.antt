use Rattle.std.proofs.Common.{◌∙◌}
use Rattle.rl_strings.proofs.SearchLemmas.{is_found}
use Rattle.rl_strings.proofs.search.has_part.Goals as goal

pub returns : goal.returns
returns c = c.is_some.ensures ∙ is_found c.args.part.now c.args.text.now c.find.result c.find.ensures.cases
