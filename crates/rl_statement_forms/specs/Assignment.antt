-- Declarations of variables, and assignments.
use Rattle.std.specs.Prelude.{ℕ, ◌-◌, ◌==◌, if◌then◌else◌, List, [], length, ◌∷◌, Option, Some, None}
use Rattle.std.specs.List.{filter_map}
use Rattle.rl_base.specs.declared.place.Place.{Place}
use Rattle.rl_syntax.specs.declared.expression.Suffix.{Suffix}
use Rattle.rl_syntax.specs.declared.expression.Suffix.TheVariants as x
use Rattle.rl_syntax.specs.declared.operator.Assignment.{Assignment}
use Rattle.rl_syntax.specs.declared.operator.Assignment.TheVariants as a
use Rattle.rl_syntax.specs.declared.statement.Stat.{Stat}
use Rattle.rl_syntax.specs.declared.statement.Stat.TheVariants as s
use Rattle.rl_tokens.specs.declared.terminal.TheConstants.{OPEN_BRACKET, DOT, EQUALS, PLUS_EQUALS, MINUS_EQUALS, STAR_EQUALS, SLASH_EQUALS, AMPERSAND_EQUALS}
use Rattle.rl_forms.specs.declared.form.Form.{Form}
use Rattle.rl_forms.specs.declared.form.Form.TheVariants as f
use Rattle.rl_forms.specs.Part.{given, part_at}
use Rattle.rl_forms.specs.Words.{put, word_at}
use Rattle.rl_forms.specs.Names.{as_name}
use Rattle.rl_forms.specs.Declarations.{as_type}
use Rattle.rl_forms.specs.Expressions.{as_expression}
use Rattle.rl_statement_forms.specs.RightSide.{last_right_side}

-- T x = e;
unfoldable pub declaration_of : Place → List Form → Option Stat
declaration_of place parts =
    given (part_at as_type parts 0) (λ ty.
    given (part_at as_name parts 1) (λ name.
    given (last_right_side parts) (λ value. Some (s.Declaration place ty name value))))

-- <x, y> = e;
unfoldable pub tuple_assignment_of : Place → List Form → Option Stat
tuple_assignment_of place parts =
    given (last_right_side parts) (λ value. Some (s.TupleAssignment place (filter_map as_name parts) value))

abbrev pub step_by : Place → ℕ → List Form → Option Suffix
step_by place word behind =
    if word == OPEN_BRACKET then given (part_at as_expression behind 0) (λ index. Some (x.Subscript place index))
    else (if word == DOT then given (part_at as_name behind 0) (λ name. Some (x.Field place name)) else None)

-- the step of a path that begins with a part: [ and an expression, or . and a name
abbrev pub step : Form → List Form → Option Suffix
step (f.Word place word) behind = step_by place word behind
step _ behind = None

-- the steps in text order
abbrev pub path_in : List Form → List Suffix
path_in [] = []
path_in (part ∷ behind) = put (step part behind) (path_in behind)

abbrev pub assignment : ℕ → Option Assignment
assignment word =
    if word == EQUALS then Some a.Set
    else (if word == PLUS_EQUALS then Some a.Add
    else (if word == MINUS_EQUALS then Some a.Subtract
    else (if word == STAR_EQUALS then Some a.Multiply
    else (if word == SLASH_EQUALS then Some a.Divide
    else (if word == AMPERSAND_EQUALS then Some a.Intersect else None)))))

-- the sign of assignment stands last but one
unfoldable pub last_assignment : List Form → Option Assignment
last_assignment parts = given (word_at parts (length parts - 2)) assignment

-- x[i].f = e;
unfoldable pub assignment_of : Place → List Form → Option Stat
assignment_of place parts =
    given (part_at as_name parts 0) (λ target.
    given (last_assignment parts) (λ sign.
    given (last_right_side parts) (λ value. Some (s.Assign place target (path_in parts) sign value))))
