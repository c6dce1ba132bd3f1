-- Expressions as parts of forms.
use Rattle.std.specs.Prelude.{ℕ, zero, suc, ◌+◌, nat_lt, if◌then◌else◌, List, [], ◌∷◌, ◌++◌}
use Rattle.rl_exception.specs.Answer.{throwing}
use Rattle.rl_exception.specs.Exceptions.{stack_overflow}
use Rattle.rl_syntax.specs.declared.expression.Exp.{Exp, out-Exp}
use Rattle.rl_syntax.specs.declared.expression.Exp.TheOpen as e
use Rattle.rl_syntax.specs.declared.expression.Suffix.{Suffix}
use Rattle.rl_syntax.specs.declared.statement.Case.{Case}
use Rattle.rl_syntax.specs.declared.statement.Handler.{Handler}
use Rattle.rl_syntax.specs.declared.statement.Stat.{Stat}
use Rattle.rl_value.specs.Plain.{Plain}
use Rattle.rl_rules.specs.Form.{expression, statement}
use Rattle.rl_rules.specs.Nesting.{levels}
use Rattle.rl_rules.specs.Rule.{Rule, Give, Use, Take, value, throw, give, give_answer}
use Rattle.rl_rules.specs.State.{State}

-- the exception, where it fits
abbrev pub raise : Plain → State → Rule
raise exception s = give_answer (throwing exception) s

-- the greatest depth of a rule
abbrev pub greatest_depth : ℕ
greatest_depth = 1000000

-- what is deeper throws
abbrev pub limited : ℕ → (State → Rule) → State → Rule
limited d rule s = if nat_lt greatest_depth d then throw stack_overflow s else rule s

-- a rule at depth d that is no form of its own: it takes its unit
abbrev pub nested : ℕ → (State → Rule) → State → Rule
nested d rule s = Take (limited d rule s)

-- Parentheses count for nothing.

abbrev pub inside : Exp → (Exp → Exp) → e.Exp-F Exp Suffix Case Handler Stat → Exp
inside x go (e.Parenthesized place y) = go y
inside x go layer = x

-- without so many parentheses around it
abbrev pub unwrapped : ℕ → Exp → Exp
unwrapped zero x = x
unwrapped (suc n) x = inside x (unwrapped n) (out-Exp x)

-- the expression in all its parentheses
unfoldable pub bare : Exp → Exp
bare x = unwrapped (levels x) x

-- an expression as a part of a form at depth d
abbrev pub part : Exp → ℕ → State → (Plain → State → Rule) → Rule
part x d s go = value (expression (bare x)) d s go

-- a part whose value is that of the form
abbrev pub value_of : Exp → ℕ → State → Rule
value_of x d s = part x d s give

-- with one more value
abbrev pub one_more : (List Plain → State → Rule) → List Plain → Plain → State → Rule
one_more go vs v s = go (vs ++ v ∷ []) s

-- parts from the left, after the values of those before
abbrev pub parts : List Exp → ℕ → (List Plain → State → Rule) → List Plain → State → Rule
parts [] d go vs s = go vs s
parts (x ∷ xs) d go vs s = part x d s (one_more (parts xs d go) vs)

-- a statement as a part of a form at depth d, with how it ends
abbrev pub used : Stat → ℕ → State → Rule
used x d s = Use (statement x) (d + 1) s Give
