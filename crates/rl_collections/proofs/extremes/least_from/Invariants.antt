use Rattle.std.proofs.Common.{◌≡◌, take}
use Rattle.std.specs.List.{fold}
use Rattle.rl_collections.specs.Extremes.{smaller}
use Rattle.rl_collections.proofs.extremes.least_from.Given as goal

abbrev pub invariant-loop-item : goal.invariant-loop-item
invariant-loop-item l = l.best ≡ fold smaller l.first (take l.item-index l.others)
