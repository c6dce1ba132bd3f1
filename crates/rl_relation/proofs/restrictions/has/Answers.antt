use Rattle.rl_relation.proofs.MemberLemmas.{searched}
use Rattle.rl_relation.proofs.restrictions.has.Goals as goal

pub returns : goal.returns
returns c =
    searched c.args.elements.now c.args.x.now c.binary_search.result c.is_ok.result c.requires c.binary_search.ensures.bound
    c.binary_search.ensures.position c.is_ok.ensures.value
