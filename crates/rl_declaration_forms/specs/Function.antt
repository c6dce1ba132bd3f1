-- Globals and functions.
use Rattle.std.specs.Prelude.{if◌then◌else◌, List, Option, Some, None}
use Rattle.std.specs.List.{filter_map}
use Rattle.rl_base.specs.declared.place.Place.{Place}
use Rattle.rl_syntax.specs.declared.declaration.Body.{Body}
use Rattle.rl_syntax.specs.declared.declaration.Body.TheVariants as b
use Rattle.rl_syntax.specs.declared.declaration.Decl.{Decl}
use Rattle.rl_syntax.specs.declared.declaration.Decl.TheVariants as d
use Rattle.rl_syntax.specs.declared.declaration.Function.{Function}
use Rattle.rl_syntax.specs.declared.declaration.Modifier.{Modifier}
use Rattle.rl_syntax.specs.declared.declaration.Modifier.TheVariants.{Default, Test}
use Rattle.rl_syntax.specs.declared.identifier.Identifier.{Identifier}
use Rattle.rl_syntax.specs.declared.ty.Ty.{Ty}
use Rattle.rl_tokens.specs.declared.terminal.TheConstants.{CLOSE_PARENTHESIS, DEFAULT, EQUALS, PRIVATE, TEST, WHEN}
use Rattle.rl_forms.specs.declared.form.Form.{Form}
use Rattle.rl_forms.specs.Part.{first_in, given, part_at}
use Rattle.rl_forms.specs.Words.{before_word, behind_word, has_word}
use Rattle.rl_forms.specs.Names.{as_name}
use Rattle.rl_forms.specs.Declarations.{as_type}
use Rattle.rl_forms.specs.Patterns.{as_pattern}
use Rattle.rl_forms.specs.Expressions.{as_expression, conditions_or_none}
use Rattle.rl_forms.specs.Statements.{as_statement}

-- T x = e; the first type and the first name of a declaration are its own
unfoldable pub global_of : Place → List Form → Option Decl
global_of place parts =
    given (first_in as_type parts) (λ ty.
    given (first_in as_name parts) (λ name.
    given (part_at as_expression (behind_word EQUALS parts) 0) (λ value.
    Some (d.Global place (has_word PRIVATE parts) ty name value))))

abbrev pub modifier_of : List Form → Option Modifier
modifier_of parts = if has_word DEFAULT parts then Some Default else (if has_word TEST parts then Some Test else None)

-- = e when conditions;
unfoldable pub valued_body : List Form → Option Body
valued_body parts =
    given (part_at as_expression (behind_word EQUALS parts) 0) (λ value.
    Some (b.Value value (conditions_or_none (behind_word WHEN parts) 0)))

-- a value, or statements
unfoldable pub body_of : List Form → Option Body
body_of parts = if has_word EQUALS parts then valued_body parts else Some (b.Statements (filter_map as_statement parts))

-- the parameters stand before the first closing parenthesis: behind it a fragment is an expression
abbrev pub function : Place → Ty → Identifier → Body → List Form → Function
function place ty name body parts = record {
  place = place;
  private = has_word PRIVATE parts;
  modifier = modifier_of parts;
  ty = ty;
  name = name;
  parameters = filter_map as_pattern (before_word CLOSE_PARENTHESIS parts);
  body = body;
}

-- an alternative of a function
unfoldable pub function_of : Place → List Form → Option Decl
function_of place parts =
    given (first_in as_type parts) (λ ty.
    given (first_in as_name parts) (λ name.
    given (body_of parts) (λ body. Some (d.Function (function place ty name body parts)))))
