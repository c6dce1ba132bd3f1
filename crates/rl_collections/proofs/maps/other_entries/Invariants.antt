use Rattle.std.proofs.Common.{◌≡◌, ◌++◌, drop, map}
use Rattle.rl_value.specs.View.{pair_of}
use Rattle.rl_collections.specs.Maps.{without}
use Rattle.rl_collections.proofs.maps.other_entries.Given as goal

abbrev pub invariant-loop-entry : goal.invariant-loop-entry
invariant-loop-entry l = l.others.items ++ without l.key (map pair_of (drop l.entry-index l.entries)) ≡ without l.key (map pair_of l.entries)
