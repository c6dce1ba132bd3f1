use Rattle.std.proofs.Common.{◌≡◌, ◌+◌, ◌*◌, drop, map}
use Rattle.std.specs.Ordering.{is_eq}
use Rattle.rl_value.specs.Plain.{plains_of, plain_size, plains_size, pairs_of, pairs_size}
use Rattle.rl_value.specs.Order.{plains_cmp, pairs_cmp}
use Rattle.rl_value.specs.View.{pair_of}
use Rattle.rl_value.proofs.same.+same.Given as goal

abbrev pub decreases-same : goal.decreases-same
decreases-same l = 3 * plain_size l.a.now

abbrev pub decreases-same_trees : goal.decreases-same_trees
decreases-same_trees l = 3 * plains_size (plains_of l.a.now.parts.items.items) + 2

abbrev pub decreases-same_all : goal.decreases-same_all
decreases-same_all l = 3 * plains_size (plains_of l.a.now) + 1

abbrev pub invariant-same_all-loop-i : goal.invariant-same_all-loop-i
invariant-same_all-loop-i l =
    is_eq (plains_cmp (plains_of (drop l.i l.a)) (plains_of (drop l.i l.b))) ≡ is_eq (plains_cmp (plains_of l.a) (plains_of l.b))

abbrev pub decreases-same_pairs : goal.decreases-same_pairs
decreases-same_pairs l = 3 * pairs_size (pairs_of (map pair_of l.a.now)) + 1

abbrev pub invariant-same_pairs-loop-i : goal.invariant-same_pairs-loop-i
invariant-same_pairs-loop-i l =
    is_eq (pairs_cmp (pairs_of (map pair_of (drop l.i l.a))) (pairs_of (map pair_of (drop l.i l.b))))
    ≡ is_eq (pairs_cmp (pairs_of (map pair_of l.a)) (pairs_of (map pair_of l.b)))
