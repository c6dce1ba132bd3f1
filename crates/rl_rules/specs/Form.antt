-- What rules use.
use Rattle.std.specs.Prelude.{List}
use Rattle.rl_value.specs.Plain.{Plain}
use Rattle.rl_syntax.specs.declared.expression.Exp.{Exp}
use Rattle.rl_syntax.specs.declared.identifier.Identifier.{Identifier}
use Rattle.rl_syntax.specs.declared.operator.Strategy.{Strategy}
use Rattle.rl_syntax.specs.declared.statement.Case.{Case}
use Rattle.rl_syntax.specs.declared.statement.Stat.{Stat}
use Rattle.rl_syntax.specs.declared.ty.Ty.{Ty}
use Rattle.rl_visibility.specs.Visible.{Alternative}
use Rattle.rl_visit.specs.Walk.{Answer}

-- the next turn of what repeats
pub data Turn : Type 0 where
  -- `while (conditions) body`
  while : List Exp → Stat → Turn
  -- `do body while (conditions)`
  do_while : Stat → List Exp → Turn
  -- `solve (variables) body`
  solve : List Identifier → Stat → Turn
  -- a visit of a value whose type is known, with what was answered at the nodes so far
  visit : Strategy → List Case → Ty → Plain → List Answer → Turn

pub data Form : Type 0 where
  expression : Exp → Form
  statement : Stat → Form
  -- an alternative of a function, on these arguments
  alternative : Alternative → List Plain → Form
  -- the cases of a visit, on a node of the value
  node : List Case → Plain → Form
  -- a turn takes no unit of its own; each takes one by what it uses first
  turn : Turn → Form
