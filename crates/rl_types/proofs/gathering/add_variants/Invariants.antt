use Rattle.std.proofs.Common.{◌≡◌, ◌++◌, map, drop}
use Rattle.rl_types.specs.Program.{variant_of}
use Rattle.rl_types.proofs.gathering.add_variants.Given as goal

abbrev pub invariant-loop-variant : goal.invariant-loop-variant
invariant-loop-variant l = l.constructors.items ++ map (variant_of l.owner) (drop l.variant-index l.variants) ≡ l.initial.constructors.items ++ map (variant_of l.owner) l.variants
