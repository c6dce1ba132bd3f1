use Rattle.std.proofs.Common.{◌≡◌, ◌+◌, ◌*◌, drop, map}
use Rattle.rl_value.specs.Plain.{plains_of, plain_size, plains_size, pairs_of, pairs_size}
use Rattle.rl_value.specs.Order.{plains_cmp, pairs_cmp}
use Rattle.rl_value.specs.View.{pair_of}
use Rattle.rl_value.proofs.order.+compare.Given as goal

abbrev pub decreases-compare : goal.decreases-compare
decreases-compare l = 2 * plain_size l.a.now

abbrev pub decreases-compare_all : goal.decreases-compare_all
decreases-compare_all l = 2 * plains_size (plains_of l.left.now) + 1

abbrev pub invariant-compare_all-loop-i : goal.invariant-compare_all-loop-i
invariant-compare_all-loop-i l =
    plains_cmp (plains_of (drop l.i l.left)) (plains_of (drop l.i l.right)) ≡ plains_cmp (plains_of l.left) (plains_of l.right)

abbrev pub decreases-compare_parts : goal.decreases-compare_parts
decreases-compare_parts l = 2 * plains_size (plains_of l.a.now) + 1

abbrev pub invariant-compare_parts-loop-i : goal.invariant-compare_parts-loop-i
invariant-compare_parts-loop-i l =
    plains_cmp (plains_of (drop l.i l.a)) (plains_of (drop l.i l.b)) ≡ plains_cmp (plains_of l.a) (plains_of l.b)

abbrev pub decreases-compare_pairs : goal.decreases-compare_pairs
decreases-compare_pairs l = 2 * pairs_size (pairs_of (map pair_of l.a.now)) + 1

abbrev pub invariant-compare_pairs-loop-i : goal.invariant-compare_pairs-loop-i
invariant-compare_pairs-loop-i l =
    pairs_cmp (pairs_of (map pair_of (drop l.i l.a))) (pairs_of (map pair_of (drop l.i l.b))) ≡ pairs_cmp (pairs_of (map pair_of l.a)) (pairs_of (map pair_of l.b))
