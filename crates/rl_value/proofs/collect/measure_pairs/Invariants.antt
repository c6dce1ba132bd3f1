use Rattle.std.proofs.Common.{◌≡◌, ◌+◌, ◌≤◌, ◌^◌, max, drop, map}
use Rattle.rl_value.specs.Plain.{pairs_of, pairs_size, pairs_height}
use Rattle.rl_value.specs.View.{pair_of}
use Rattle.rl_value.proofs.collect.measure_pairs.Given as goal

abbrev pub invariant-loop-pair : goal.invariant-loop-pair
invariant-loop-pair l =
    (l.size + pairs_size (pairs_of (map pair_of (drop l.pair-index l.pairs))) ≡ 1 + pairs_size (pairs_of (map pair_of l.pairs)))
    × (max l.height (1 + pairs_height (pairs_of (map pair_of (drop l.pair-index l.pairs)))) ≡ 1 + pairs_height (pairs_of (map pair_of l.pairs)))
    × (l.size ≤ 2 ^ 24) × (l.height ≤ 2000) × (1 ≤ l.height)
