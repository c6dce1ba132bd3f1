-- Statements, cases and handlers among the parts of a phrase.
use Rattle.std.specs.Prelude.{Option, Some, None}
use Rattle.rl_syntax.specs.Expression.{place_of_expression}
use Rattle.rl_syntax.specs.declared.expression.Exp.{Exp}
use Rattle.rl_syntax.specs.declared.statement.Case.{Case}
use Rattle.rl_syntax.specs.declared.statement.Handler.{Handler}
use Rattle.rl_syntax.specs.declared.statement.Stat.{Stat}
use Rattle.rl_syntax.specs.declared.statement.Stat.TheVariants as s
use Rattle.rl_forms.specs.declared.form.Form.{Form}
use Rattle.rl_forms.specs.declared.form.Form.TheVariants as f

abbrev pub expression_statement : Exp → Stat
expression_statement expression = s.Expression (place_of_expression expression) expression

-- a visit is a statement without a semicolon
abbrev pub as_statement : Form → Option Stat
as_statement (f.Statement statement) = Some statement
as_statement (f.Expression expression) = Some (expression_statement expression)
as_statement _ = None

abbrev pub as_case : Form → Option Case
as_case (f.Case case) = Some case
as_case _ = None

abbrev pub as_handler : Form → Option Handler
as_handler (f.Handler handler) = Some handler
as_handler _ = None
