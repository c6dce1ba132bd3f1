use Rattle.std.proofs.Common.{◌∙◌}
use Rattle.rl_operators.proofs.ListLemmas.{cut_at, not_there}
use Rattle.rl_operators.proofs.lists.take_out.Goals as goal

pub returns-in-Some : goal.returns-in-Some
returns-in-Some c =
    c.remove.ensures.by_index.2 ∙ cut_at c.args.x.now c.args.values.now.items c.deref.result.now c.in-Some.place c.in-Some.ensures c.deref.ensures.value

pub returns-in-None : goal.returns-in-None
returns-in-None c = not_there c.args.x.now c.args.values.now.items c.deref.result.now c.in-None.ensures c.deref.ensures.value
