use Rattle.std.proofs.Common.{◌≡◌, map, take}
use Rattle.rl_value.specs.View.{pair_of}
use Rattle.rl_collections.specs.Maps.{row}
use Rattle.rl_collections.proofs.maps.all_rows.Given as goal

abbrev pub invariant-loop-entry : goal.invariant-loop-entry
invariant-loop-entry l = l.rows.items ≡ map (λ e. row (pair_of e)) (take l.entry-index l.entries)
