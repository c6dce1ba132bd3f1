-- What the machine ends with.
use Rattle.std.specs.Prelude.{◌≡◌, ℕ, List}
use Rattle.rl_phrase.specs.Terminals.{Tokens}
use Rattle.rl_phrase.specs.declared.table.Rule.{Rule}
use Rattle.rl_phrase.specs.declared.search.Ending.{Ending}
use Rattle.rl_phrase.specs.declared.search.Ending.TheVariants.{Failed, Found}
use Rattle.rl_phrase.specs.Tree.{Trees}
use Rattle.rl_phrase.specs.Phr.{Phr, Fails, Gives}
use Rattle.rl_phrase.specs.Steps.{steps_of}

-- it shows what the row gives at the first token
abbrev pub Shows : Tokens → List Rule → ℕ → Ending → Type 0
Shows tokens rules row (Failed far) = Phr tokens rules row 0 (Fails far)
Shows tokens rules row (Found steps next) = (trees : Trees) × (far : ℕ) × Phr tokens rules row 0 (Gives trees next far) × (steps.items ≡ steps_of trees)
