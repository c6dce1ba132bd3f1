use Rattle.rl_access.proofs.EntryOrder.{entries_order}
use Rattle.rl_access.proofs.elements.subscript.Goals as goal

pub value_of-requires : goal.value_of-requires
value_of-requires c = entries_order c.args.a.now c.in-Map.entries.now c.in-Map.ensures.value c.open.ensures.order
