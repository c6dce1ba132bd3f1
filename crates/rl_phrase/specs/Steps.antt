-- Trees as steps in post-order.
use Rattle.std.specs.Prelude.{ℕ, suc, List, [], ◌∷◌, ◌++◌}
use Rattle.rl_phrase.specs.declared.steps.Step.{Step}
use Rattle.rl_phrase.specs.declared.steps.Step.TheVariants as step
use Rattle.rl_phrase.specs.Tree.{Tree, Trees, Token, Node, none, more}

abbrev pub size : Trees → ℕ
size none = 0
size (more t ts) = suc (size ts)

abbrev mutual
  pub tree_steps : Tree → List Step
  tree_steps (Token t) = step.Leaf t ∷ []
  tree_steps (Node r f t ps) = steps_of ps ++ step.Node r f t (size ps) ∷ []

  pub steps_of : Trees → List Step
  steps_of none = []
  steps_of (more t ts) = tree_steps t ++ steps_of ts
