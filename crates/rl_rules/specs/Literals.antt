-- Literals, variables, `it` and interpolated strings.
use Rattle.std.specs.Prelude.{ℕ, List, [], ◌∷◌, ◌++◌, Option, Some, None}
use Rattle.rl_exception.specs.Answer.{fitting}
use Rattle.rl_exception.specs.Exceptions.{uninitialized_variable}
use Rattle.rl_print.specs.Printed.{shown_of}
use Rattle.rl_syntax.specs.declared.expression.Exp.{Exp}
use Rattle.rl_syntax.specs.declared.identifier.Identifier.{Identifier}
use Rattle.rl_value.specs.Plain.{Plain, text}
use Rattle.rl_rules.specs.Parts.{part, raise}
use Rattle.rl_rules.specs.Rule.{Rule, give, give_answer, wrong_operand}
use Rattle.rl_rules.specs.State.{State, read, it_of}

-- its own value, where it fits
abbrev pub literal : Plain → State → Rule
literal v s = give_answer (fitting v) s

-- what follows with a value that is there
abbrev pub where_there : List ℕ → (Plain → State → Rule) → Option Plain → State → Rule
where_there name go None s = raise (uninitialized_variable name) s
where_there name go (Some v) s = go v s

-- what follows with the value of the variable with this number and name; a global may have none yet
abbrev pub with_value : ℕ → List ℕ → (Plain → State → Rule) → State → Rule
with_value number name go s = where_there name go (read number s) s

abbrev pub with_variable : Identifier → (Plain → State → Rule) → State → Rule
with_variable x go s = with_value x.number x.name go s

abbrev pub variable : Identifier → State → Rule
variable x = with_variable x give

-- outside of a reducer, where no program has it, it has no value of any kind
abbrev pub it_or_none : Option Plain → State → Rule
it_or_none None s = wrong_operand s
it_or_none (Some v) s = give v s

abbrev pub it : State → Rule
it s = it_or_none (it_of s) s

-- after a value: the text so far, the value as it is shown, and the text behind it
abbrev pub shown_between : (List ℕ → State → Rule) → (before behind : List ℕ) → Plain → State → Rule
shown_between go before behind v s = go (before ++ shown_of v ++ behind) s

-- the values with the texts behind them, after the text so far
abbrev pub interpolation : List (Exp × List ℕ) → ℕ → List ℕ → State → Rule
interpolation [] d before s = literal (text before) s
interpolation ((x, behind) ∷ rest) d before s = part x d s (shown_between (interpolation rest d) before behind)
