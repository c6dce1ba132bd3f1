use Rattle.std.proofs.Common.{◌≡◌, [], length, map}
use Rattle.rl_trees.specs.Order.{put_all}
use Rattle.rl_trees.specs.Standing.{span_of}
use Rattle.rl_trees.proofs.OrderLemmas.{AllBelow}
use Rattle.rl_trees.proofs.order.in_order.Given as goal

abbrev pub invariant-loop-span : goal.invariant-loop-span
invariant-loop-span l =
    record {
      place : l.place ≡ length l.yielded;
      below : AllBelow l.place l.ordered.entries;
      same : map span_of l.ordered.entries ≡ put_all [] l.yielded;
    }
