-- Trees on a stack, and the trees that are to come.
use Rattle.std.specs.Prelude.{ℕ, ◌-◌, ◌≤◌, List, [], ◌∷◌, ◌++◌, Option, Some, length, take, drop, nat_eq, nat_lt, if◌then◌else◌}
use Rattle.rl_phrase.specs.declared.steps.Step.{Step}
use Rattle.rl_phrase.specs.declared.steps.Step.TheVariants as step
use Rattle.rl_phrase.specs.Tree.{Tree, Token, Node}
use Rattle.rl_phrase.specs.View.{list_trees}

-- a node takes its trees from the stack's end
abbrev pub added : Step → List Tree → List Tree
added (step.Leaf t) st = st ++ Token t ∷ []
added (step.Node r f t n) st = take (length st - n) st ++ Node r f t (list_trees (drop (length st - n) st)) ∷ []

abbrev pub IsFit : Step → ℕ → Type 0
IsFit (step.Leaf t) len = Unit {0}
IsFit (step.Node r f t n) len = n ≤ len

-- One tree less is to come: how many are of each node above, from the lowest on.
abbrev pub one_less : List ℕ → List ℕ
one_less [] = []
one_less (n ∷ above) = if nat_lt 1 n then (n - 1) ∷ above else one_less above

abbrev pub with_parts : ℕ → List ℕ → List ℕ
with_parts n above = if nat_eq n 0 then one_less above else n ∷ above

abbrev pub above_after : Step → List ℕ → List ℕ
above_after (step.Leaf t) above = one_less above
above_after (step.Node r f t n) above = with_parts n above

-- the node at the limit, if the step is one there
abbrev pub found_after : Step → ℕ → ℕ → Option ℕ → Option ℕ
found_after (step.Leaf t) limit depth found = found
found_after (step.Node r f t n) limit depth found = if nat_eq depth limit then Some f else found
