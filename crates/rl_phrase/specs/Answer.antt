-- What the phrase of a table without left recursion is.
use Rattle.std.specs.Prelude.{◌≡◌, ℕ, List, Some, None, Result, Ok, Err, slice_get}
use Rattle.rl_phrase.specs.Terminals.{Tokens}
use Rattle.rl_phrase.specs.declared.table.Rule.{Rule}
use Rattle.rl_phrase.specs.declared.table.Form.TheVariants.{Named}
use Rattle.rl_phrase.specs.declared.tree.Phrase.{Phrase}
use Rattle.rl_phrase.specs.declared.phrase.PhraseFault.{PhraseFault}
use Rattle.rl_phrase.specs.declared.phrase.PhraseFault.TheVariants.{Stopped, TooDeep, OutOfMemory}
use Rattle.rl_phrase.specs.Tree.{Tree, only}
use Rattle.rl_phrase.specs.Phr.{Fails, Gives, outcome_of}
use Rattle.rl_phrase.specs.Depth.{first_below}
use Rattle.rl_phrase.specs.View.{view}

abbrev pub IsNamed : List Rule → ℕ → Type 0
IsNamed rules row = (rule : Rule) × (slice_get rules row ≡ Some rule) × (rule.form ≡ Named)

-- the tree of a row is answered: it itself where it is not too high, and else where it is too high
abbrev pub AnswersTree : Tree → Result Phrase PhraseFault → Type 0
AnswersTree tree (Ok phrase) = (view phrase ≡ tree) × (first_below tree 1000 ≡ None)
AnswersTree tree (Err (TooDeep token)) = first_below tree 1000 ≡ Some token
AnswersTree tree (Err OutOfMemory) = Unit {0}
AnswersTree tree (Err (Stopped token)) = ⊥

-- the row gives this tree
abbrev pub GivesTree : Tokens → List Rule → ℕ → Tree → Type 0
GivesTree tokens rules row tree = (next far : ℕ) × (outcome_of tokens rules row ≡ Gives (only tree) next far)

-- The phrase is what the row gives. It stops where the row fails.
abbrev pub Answers : Tokens → List Rule → ℕ → Result Phrase PhraseFault → Type 0
Answers tokens rules row (Ok phrase) = GivesTree tokens rules row (view phrase) × (first_below (view phrase) 1000 ≡ None)
Answers tokens rules row (Err (Stopped token)) = outcome_of tokens rules row ≡ Fails token
Answers tokens rules row (Err (TooDeep token)) = (tree : Tree) × GivesTree tokens rules row tree × (first_below tree 1000 ≡ Some token)
Answers tokens rules row (Err OutOfMemory) = Unit {0}
