-- Statements without other statements in them.
use Rattle.std.specs.Prelude.{ℕ, ◌==◌, if◌then◌else◌, List, Option, Some, None, slice_get}
use Rattle.rl_base.specs.declared.place.Place.{Place}
use Rattle.rl_syntax.specs.declared.expression.Exp.{Exp}
use Rattle.rl_syntax.specs.declared.statement.Stat.{Stat}
use Rattle.rl_syntax.specs.declared.statement.Stat.TheVariants as s
use Rattle.rl_tokens.specs.declared.terminal.TheConstants.{FAIL, BREAK, CONTINUE, SEMICOLON, INSERT, APPEND, THROW, RETURN, LESS}
use Rattle.rl_forms.specs.declared.form.Form.{Form}
use Rattle.rl_forms.specs.declared.form.Form.TheVariants as f
use Rattle.rl_forms.specs.Part.{given, part_at}
use Rattle.rl_forms.specs.Expressions.{as_expression}
use Rattle.rl_statement_forms.specs.RightSide.{last_right_side}
use Rattle.rl_statement_forms.specs.Assignment.{assignment_of, declaration_of, tuple_assignment_of}

-- a word alone
abbrev pub bare : Place → ℕ → Option Stat
bare place word =
    if word == FAIL then Some (s.Fail place)
    else (if word == BREAK then Some (s.Break place)
    else (if word == CONTINUE then Some (s.Continue place)
    else (if word == SEMICOLON then Some (s.Empty place) else None)))

-- what the word does with the value
abbrev pub effect : Place → ℕ → Exp → Option Stat
effect place word value =
    if word == INSERT then Some (s.Insert place value)
    else (if word == APPEND then Some (s.Append place value)
    else (if word == THROW then Some (s.Throw place value) else None))

-- insert e;, append e; or throw e;
unfoldable pub effect_of : Place → ℕ → List Form → Option Stat
effect_of place word parts = given (part_at as_expression parts 1) (λ value. effect place word value)

abbrev pub return_by : Place → Option Exp → Stat
return_by place (Some value) = s.ReturnValue place value
return_by place None = s.Return place

-- return;, or return with a right side
unfoldable pub return_of : Place → List Form → Stat
return_of place parts = return_by place (last_right_side parts)

abbrev pub word_statement_from : Option Stat → Place → ℕ → List Form → Option Stat
word_statement_from (Some statement) place word parts = Some statement
word_statement_from None place word parts =
    if word == RETURN then Some (return_of place parts)
    else (if word == LESS then tuple_assignment_of place parts else effect_of place word parts)

-- what begins with a word or a symbol
unfoldable pub word_statement_of : Place → ℕ → List Form → Option Stat
word_statement_of place word parts = word_statement_from (bare place word) place word parts

-- e;
unfoldable pub expression_statement_of : Place → List Form → Option Stat
expression_statement_of place parts = given (part_at as_expression parts 0) (λ value. Some (s.Expression place value))

abbrev pub simple_from : Place → List Form → Option Form → Option Stat
simple_from place parts (Some (f.Word at word)) = word_statement_of place word parts
simple_from place parts (Some (f.Type ty)) = declaration_of place parts
simple_from place parts (Some (f.Name name)) = assignment_of place parts
simple_from place parts _ = expression_statement_of place parts

-- by its first part
unfoldable pub simple_of : Place → List Form → Option Stat
simple_of place parts = simple_from place parts (slice_get parts 0)
