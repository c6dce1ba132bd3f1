use Rattle.std.proofs.Common.{take}
use Rattle.rl_value.specs.Plain.{Plain}
use Rattle.rl_value.specs.Rising.{In}
use Rattle.rl_relation.specs.Closures.{Covers, GrowsBy}
use Rattle.rl_relation.proofs.closures.add_all.Given as goal

abbrev pub invariant-loop-value : goal.invariant-loop-value
invariant-loop-value l = record {
  covered : Covers l.seen l.found.items;
  has : (z : Plain) → In z (take l.value-index l.values) → In z l.found.items;
  grown : GrowsBy l.values l.initial.found.items l.found.items;
}
