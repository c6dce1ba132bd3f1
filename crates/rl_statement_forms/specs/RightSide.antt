-- Right sides: an expression, or a loop for the list of the values that it appends.
use Rattle.std.specs.Prelude.{◌-◌, List, length, Option, Some, None, slice_get, option_and_then}
use Rattle.rl_syntax.specs.Statement.{place_of_statement}
use Rattle.rl_syntax.specs.declared.expression.Exp.{Exp}
use Rattle.rl_syntax.specs.declared.expression.Exp.TheVariants as e
use Rattle.rl_syntax.specs.declared.statement.Stat.{Stat}
use Rattle.rl_forms.specs.declared.form.Form.{Form}
use Rattle.rl_forms.specs.declared.form.Form.TheVariants as f
use Rattle.rl_forms.specs.Part.{or_else}
use Rattle.rl_forms.specs.Expressions.{as_expression}

abbrev pub loop_value : Stat → Exp
loop_value statement = e.Loop (place_of_statement statement) statement

-- the only statement on a right side is a loop
abbrev pub as_loop : Form → Option Exp
as_loop (f.Statement statement) = Some (loop_value statement)
as_loop _ = None

abbrev pub as_right_side : Form → Option Exp
as_right_side part = or_else (as_loop part) (as_expression part)

-- a right side stands last
unfoldable pub last_right_side : List Form → Option Exp
last_right_side parts = option_and_then as_right_side (slice_get parts (length parts - 1))
