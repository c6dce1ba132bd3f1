use Rattle.std.proofs.Common.{◌≡◌, drop, None}
use Rattle.rl_eval.specs.Preparation.{declarations_built}
use Rattle.rl_eval.proofs.preparation.module_declarations.Given as goal

abbrev pub invariant-loop-one : goal.invariant-loop-one
invariant-loop-one l = declarations_built l.visible l.first l.found (drop l.one-index l.declarations) ≡ declarations_built l.visible l.first None l.declarations
