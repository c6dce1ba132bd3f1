use Rattle.rl_access.proofs.EntryOrder.{entries_order}
use Rattle.rl_access.proofs.changes.with_subscript.Goals as goal

pub with_entry-requires : goal.with_entry-requires
with_entry-requires c = entries_order c.args.a.now c.in-Map.entries.now c.in-Map.ensures.value c.open.ensures.order
