use Rattle.rl_operators.proofs.SetLemmas.{searched}
use Rattle.rl_operators.proofs.sets.has.Goals as goal

pub returns : goal.returns
returns c =
    searched c.args.elements.now c.args.x.now c.binary_search.result c.is_ok.result c.requires c.binary_search.ensures.bound
    c.binary_search.ensures.position c.is_ok.ensures.value
