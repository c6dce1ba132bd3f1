-- Steps from the last to the first.
use Rattle.std.specs.Prelude.{◌≡◌, ℕ, List, [], ◌∷◌, ◌++◌, Option, Some, None, length}
use Rattle.rl_phrase.specs.declared.steps.Step.{Step}
use Rattle.rl_phrase.specs.declared.steps.Step.TheVariants as step
use Rattle.rl_phrase.specs.declared.arena.Item.{Item}
use Rattle.rl_phrase.specs.declared.arena.Item.TheVariants as item
use Rattle.rl_phrase.specs.declared.arena.Cell.{Cell}
use Rattle.rl_phrase.specs.Arena.{parts_in, Reads}

-- the last step of a tree
abbrev pub step_in : List Cell → Item → Step
step_in cells (item.Token t) = step.Leaf t
step_in cells (item.Node rule from to parts) = step.Node rule from to (length (parts_in cells parts))

-- the lists whose steps come before it, the last first
abbrev pub lists_before : ℕ → Item → List ℕ → List ℕ
lists_before before (item.Token t) lists = before ∷ lists
lists_before before (item.Node rule from to parts) lists = parts ∷ before ∷ lists

abbrev pub IsUnfoldedTo : List Cell → Option Cell → (steps : List Step) (lists : List ℕ) (new_steps : List Step) (new_lists : List ℕ) → Type 0
IsUnfoldedTo cells None steps lists new_steps new_lists = (new_steps ≡ steps) × (new_lists ≡ lists)
IsUnfoldedTo cells (Some cell) steps lists new_steps new_lists = (new_steps ≡ steps ++ step_in cells cell.item ∷ []) × (new_lists ≡ lists_before cell.before cell.item lists)

-- a list gives its last step and goes over to the lists before it
abbrev pub IsUnfolded : List Cell → ℕ → (steps : List Step) (lists : List ℕ) (new_steps : List Step) (new_lists : List ℕ) → Type 0
IsUnfolded cells list steps lists new_steps new_lists = (cell : Option Cell) × Reads cells list cell × IsUnfoldedTo cells cell steps lists new_steps new_lists
