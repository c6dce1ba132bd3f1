-- Patterns of one token, and negative integers.
use Rattle.std.specs.Prelude.{ℕ, ◌==◌, true, false, if◌then◌else◌, Option, Some, None}
use Rattle.std.specs.Int.{w128, int_wrapping_neg}
use Rattle.rl_base.specs.declared.place.Place.{Place}
use Rattle.rl_syntax.specs.declared.pattern.Pattern.{Pattern}
use Rattle.rl_syntax.specs.declared.pattern.Pattern.TheVariants as p
use Rattle.rl_tokens.specs.declared.terminal.TheConstants.{TRUE, FALSE, UNDERSCORE}
use Rattle.rl_forms.specs.declared.form.Form.{Form}
use Rattle.rl_forms.specs.declared.form.Form.TheVariants as f
use Rattle.rl_forms.specs.Names.{variable_of}

abbrev pub word_of : Place → ℕ → Option Pattern
word_of place word =
    if word == TRUE then Some (p.Truth place true)
    else (if word == FALSE then Some (p.Truth place false)
    else (if word == UNDERSCORE then Some (p.Wildcard place) else None))

-- the pattern that a token is
unfoldable pub token_of : Place → Form → Option Pattern
token_of place (f.Integer value) = Some (p.Integer place value)
token_of place (f.Text text) = Some (p.Text place text)
token_of place (f.Location path) = Some (p.Location place path)
token_of place (f.Name name) = Some (p.Variable place (variable_of name))
token_of place (f.Word at word) = word_of place word
token_of place _ = None

-- - and an integer, whose negative is always there, since it has no sign
abbrev pub negative_of : Place → Form → Option Pattern
negative_of place (f.Integer value) = Some (p.Integer place (int_wrapping_neg w128 value))
negative_of place _ = None
