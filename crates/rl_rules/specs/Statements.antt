-- Statements that end what they stand in, and the simple ones.
use Rattle.std.specs.Prelude.{ℕ}
use Rattle.rl_syntax.specs.declared.expression.Exp.{Exp}
use Rattle.rl_value.specs.Plain.{Plain, empty_tuple}
use Rattle.rl_rules.specs.Parts.{part}
use Rattle.rl_rules.specs.Rule.{Ret, Rule, Give, done, throw}
use Rattle.rl_rules.specs.State.{State, append}

-- the value is dropped
abbrev pub dropped : Plain → State → Rule
dropped v s = done s

abbrev pub expression_statement : Exp → ℕ → State → Rule
expression_statement x d s = part x d s dropped

abbrev pub return : State → Rule
return s = Give (Ret empty_tuple) s

abbrev pub returned_value : Plain → State → Rule
returned_value v s = Give (Ret v) s

abbrev pub return_value : Exp → ℕ → State → Rule
return_value x d s = part x d s returned_value

abbrev pub throw_value : Exp → ℕ → State → Rule
throw_value x d s = part x d s throw

abbrev pub appended : Plain → State → Rule
appended v s = done (append v s)

abbrev pub append_value : Exp → ℕ → State → Rule
append_value x d s = part x d s appended
