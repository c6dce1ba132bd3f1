use Rattle.std.proofs.Common.{rules}
use Rattle.std.proofs.lemmas.List.Sorted.{IsPartitionPoint-from_clause}
use Rattle.rl_access.specs.Rows.{is_below}
use Rattle.rl_access.proofs.RowLemmas.{parted}
use Rattle.rl_access.proofs.rows.first_row.Goals as goal

pub returns-clause-point : goal.returns-clause-point
returns-clause-point c =
    IsPartitionPoint-from_clause (is_below c.args.key.now) _ _ c.partition_point.ensures.partitioned
    (parted c.args.key.now c.args.rows.now c.requires.rises c.requires.rows) (λ a r q k. search rules)
