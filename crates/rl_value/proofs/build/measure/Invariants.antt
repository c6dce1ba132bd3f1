use Rattle.std.proofs.Common.{◌≡◌, ◌+◌, ◌≤◌, ◌^◌, max, drop}
use Rattle.rl_value.specs.Plain.{plains_of, plains_size, plains_height}
use Rattle.rl_value.proofs.build.measure.Given as goal

abbrev pub invariant-loop-item : goal.invariant-loop-item
invariant-loop-item l =
    (l.size + plains_size (plains_of (drop l.item-index l.items)) ≡ 1 + plains_size (plains_of l.items))
    × (max l.height (1 + plains_height (plains_of (drop l.item-index l.items))) ≡ 1 + plains_height (plains_of l.items))
    × (l.size ≤ 2 ^ 24) × (l.height ≤ 2000) × (1 ≤ l.height)
