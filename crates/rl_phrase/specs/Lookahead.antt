-- Rows that are passed over.
use Rattle.std.specs.Prelude.{◌≡◌, ◌⊎◌, ℕ, ◌<◌, ◌≤◌, max, nat_lt, List, if◌then◌else◌}
use Rattle.rl_phrase.specs.Terminals.{Tokens}
use Rattle.rl_phrase.specs.declared.table.Rule.{Rule}
use Rattle.rl_phrase.specs.declared.table.Form.TheVariants.{Star, Opt}
use Rattle.rl_phrase.specs.declared.firsts.First.{First}
use Rattle.rl_phrase.specs.declared.turn.Rest.{Rest}
use Rattle.rl_phrase.specs.declared.turn.Frame.{Frame}
use Rattle.rl_phrase.specs.declared.turn.Frame.TheVariants.{Parts, Choices, Naming, Turns, Optional, Negated}
use Rattle.rl_phrase.specs.Firsts.{CannotBegin}

-- the rows from one up to another stand before the end, and cannot begin with the token
pub record ArePassed (tokens : Tokens) (firsts : List First) (token from to end : ℕ) : Type 0 where
  pub forward : from ≤ to
  pub rows : (row : ℕ) → from ≤ row → row < to → (row < end) × CannotBegin tokens firsts row token

-- how far the text was tried, where rows up to another were tried in vain at the token
abbrev pub tried : (token from to far : ℕ) → ℕ
tried token from to far = if nat_lt from to then max far token else far

-- of a choice, the alternatives up to another are passed over
abbrev pub PassesOver : Tokens → List First → Frame → (far : ℕ) → Frame → (reached : ℕ) → Type 0
PassesOver tokens firsts (Choices rest mark) far new reached =
    (to : ℕ) × ArePassed tokens firsts mark.at rest.next to rest.end
    × (let left : Rest = record { next = to; end = rest.end } in new ≡ Choices left mark)
    × (reached ≡ tried mark.at rest.next to far)
PassesOver tokens firsts (Parts rest) far new reached = (new ≡ Parts rest) × (reached ≡ far)
PassesOver tokens firsts (Naming row mark before) far new reached = (new ≡ Naming row mark before) × (reached ≡ far)
PassesOver tokens firsts (Turns rest mark must) far new reached = (new ≡ Turns rest mark must) × (reached ≡ far)
PassesOver tokens firsts (Optional mark) far new reached = (new ≡ Optional mark) × (reached ≡ far)
PassesOver tokens firsts (Negated mark) far new reached = (new ≡ Negated mark) × (reached ≡ far)

-- a row that takes nothing where its first part fails
abbrev pub IsOptional : Rule → Type 0
IsOptional rule = ((rule.form ≡ Star) ⊎ (rule.form ≡ Opt)) × (0 < rule.count)
