-- Rules in a scope of their own, and lists of statements.
use Rattle.std.specs.Prelude.{ℕ, ◌+◌, List, [], ◌∷◌}
use Rattle.rl_syntax.specs.declared.statement.Stat.{Stat}
use Rattle.rl_rules.specs.Form.{statement}
use Rattle.rl_rules.specs.Rule.{Outcome, Rule, Give, Use, after, on_value, dropping, done}
use Rattle.rl_rules.specs.State.{State, open_scope, close_scope}

abbrev pub leave_scope : Outcome → State → Rule
leave_scope r s = Give r (close_scope s)

-- however it ends, the scope ends with it
abbrev pub scoped : (State → Rule) → State → Rule
scoped rule s = after (rule (open_scope s)) leave_scope

-- one after another, up to the first that ends otherwise than in a value
abbrev pub statements : List Stat → ℕ → State → Rule
statements [] d s = done s
statements (x ∷ xs) d s = Use (statement x) (d + 1) s (on_value (dropping (statements xs d)))

abbrev pub block : List Stat → ℕ → State → Rule
block xs d = scoped (statements xs d)
