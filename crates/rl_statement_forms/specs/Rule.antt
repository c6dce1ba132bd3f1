-- What a phrase of statements says, by its rule.
use Rattle.std.specs.Prelude.{ℕ, ◌==◌, if◌then◌else◌, List, Option, Some, None}
use Rattle.std.specs.Option.{option_map}
use Rattle.rl_base.specs.declared.place.Place.{Place}
use Rattle.rl_syntax.specs.declared.statement.Stat.{Stat}
use Rattle.rl_phrase_table.specs.declared.rules.TheConstants.{STATEMENT, BLOCK, IF, SWITCH, LOOP, SOLVE, TRY, SIMPLE_STATEMENT, CASE, CATCH, FINALLY, RIGHT_SIDE}
use Rattle.rl_forms.specs.declared.form.Form.{Form}
use Rattle.rl_forms.specs.declared.form.Form.TheVariants as f
use Rattle.rl_forms.specs.Part.{part_at}
use Rattle.rl_forms.specs.Expressions.{as_expression}
use Rattle.rl_statement_forms.specs.Control.{block_of, if_of, switch_of, loop_of, solve_of}
use Rattle.rl_statement_forms.specs.Trying.{finally_of, try_of}
use Rattle.rl_statement_forms.specs.Case.{case_of, handler_of}
use Rattle.rl_statement_forms.specs.Simple.{expression_statement_of, simple_of}

unfoldable pub statement_of : ℕ → Place → List Form → Option Stat
statement_of rule place parts =
    if rule == STATEMENT then expression_statement_of place parts
    else (if rule == BLOCK then Some (block_of place parts)
    else (if rule == IF then if_of place parts
    else (if rule == SWITCH then switch_of place parts
    else (if rule == LOOP then loop_of place parts
    else (if rule == SOLVE then solve_of place parts
    else (if rule == TRY then try_of place parts
    else (if rule == SIMPLE_STATEMENT then simple_of place parts else None)))))))

-- e; on a right side
unfoldable pub right_side_of : List Form → Option Form
right_side_of parts = option_map f.Expression (part_at as_expression parts 0)

-- what is no statement
unfoldable pub other_form : ℕ → Place → List Form → Option Form
other_form rule place parts =
    if rule == CASE then option_map f.Case (case_of place parts)
    else (if rule == CATCH then option_map f.Handler (handler_of place parts)
    else (if rule == FINALLY then finally_of parts
    else (if rule == RIGHT_SIDE then right_side_of parts else None)))

-- a statement, or another form
abbrev pub statement_or : Option Stat → Option Form → Option Form
statement_or (Some statement) other = Some (f.Statement statement)
statement_or None other = other

unfoldable pub statement_form : ℕ → Place → List Form → Option Form
statement_form rule place parts = statement_or (statement_of rule place parts) (other_form rule place parts)
