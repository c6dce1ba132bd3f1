use Rattle.std.proofs.Common.{◌≡◌, drop}
use Rattle.rl_eval.specs.Preparation.{others_built}
use Rattle.rl_eval.proofs.preparation.others.Given as goal

abbrev pub invariant-loop-module : goal.invariant-loop-module
invariant-loop-module l = others_built (drop l.module-index l.modules) ≡ others_built l.modules
