use Rattle.std.proofs.Common.{rules}
use Rattle.std.proofs.lemmas.List.Sorted.{IsPartitionPoint-from_clause}
use Rattle.rl_access.proofs.EntryOrder.{stands_before, keys_parted}
use Rattle.rl_access.proofs.elements.key_place.Goals as goal

pub returns : goal.returns
returns c =
    IsPartitionPoint-from_clause (stands_before c.args.key.now) _ _ c.partition_point.ensures.partitioned
    (keys_parted c.args.key.now c.args.entries.now c.requires) (λ a r q k. search rules)
