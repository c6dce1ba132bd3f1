use Rattle.std.proofs.Common.{◌≡◌, [], ◌∷◌, drop, map, Some}
use Rattle.rl_phrase.specs.Tree.{Tree}
use Rattle.rl_phrase.specs.Steps.{tree_steps}
use Rattle.rl_phrase.specs.View.{tree_of}
use Rattle.rl_phrase.proofs.Rebuild.{rebuild}
use Rattle.rl_phrase.proofs.build.build.Given as goal

abbrev pub invariant-loop-step : goal.invariant-loop-step
invariant-loop-step l = (t : Tree) → l.steps ≡ tree_steps t → rebuild (drop l.step-index l.steps) (map tree_of l.parts.items) ≡ Some (t ∷ [])
