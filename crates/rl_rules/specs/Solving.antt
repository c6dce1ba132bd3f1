-- `solve`.
use Rattle.std.specs.Prelude.{ℕ, ◌&&◌, Bool, true, false, if◌then◌else◌, List, [], ◌∷◌, map, Option, Some, None}
use Rattle.rl_syntax.specs.declared.identifier.Identifier.{Identifier}
use Rattle.rl_syntax.specs.declared.statement.Stat.{Stat}
use Rattle.rl_value.specs.Laws.{plain_eq}
use Rattle.rl_value.specs.Plain.{Plain}
use Rattle.rl_rules.specs.Form.{turn, solve}
use Rattle.rl_rules.specs.Literals.{with_variable}
use Rattle.rl_rules.specs.Parts.{used}
use Rattle.rl_rules.specs.Rule.{Outcome, Val, Rule, Give, Use, after, dropping, done}
use Rattle.rl_rules.specs.Scopes.{scoped}
use Rattle.rl_rules.specs.State.{State, read}

-- the variables with what they have
abbrev pub values_in : State → List Identifier → List (Identifier × Option Plain)
values_in s xs = map (λ x. (x, read x.number s)) xs

abbrev pub is_same : Option Plain → Option Plain → Bool
is_same None None = true
is_same (Some u) (Some v) = plain_eq u v
is_same u v = false

-- whether each variable has what it had before
abbrev pub are_same : List (Identifier × Option Plain) → State → Bool
are_same [] s = true
are_same ((x, u) ∷ before) s = is_same u (read x.number s) && are_same before s

-- after a turn: done where the variables have the values that they had before it
abbrev pub solved : List Identifier → Stat → ℕ → List (Identifier × Option Plain) → Outcome → State → Rule
solved xs body d before (Val v) s = if are_same before s then done s else Use (turn (solve xs body)) d s Give
solved xs body d before r s = Give r s

abbrev pub solve_turn : List Identifier → Stat → ℕ → State → Rule
solve_turn xs body d s = after (scoped (used body d) s) (solved xs body d (values_in s xs))

-- the variables must have values before the first turn
abbrev pub with_variables : List Identifier → (State → Rule) → State → Rule
with_variables [] rule s = rule s
with_variables (x ∷ xs) rule s = with_variable x (dropping (with_variables xs rule)) s

abbrev pub first_turn : List Identifier → Stat → ℕ → State → Rule
first_turn xs body d s = Use (turn (solve xs body)) d s Give

abbrev pub solving : List Identifier → Stat → ℕ → State → Rule
solving xs body d = with_variables xs (first_turn xs body d)
