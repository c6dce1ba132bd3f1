-- Names and texts among the parts of a phrase.
use Rattle.std.specs.Prelude.{ℕ, false, List, Option, Some, None}
use Rattle.rl_syntax.specs.declared.identifier.Identifier.{Identifier}
use Rattle.rl_syntax.specs.declared.identifier.PatternVariable.{PatternVariable}
use Rattle.rl_forms.specs.declared.form.Form.{Form}
use Rattle.rl_forms.specs.declared.form.Form.TheVariants as f

abbrev pub as_name : Form → Option Identifier
as_name (f.Name name) = Some name
as_name _ = None

-- the variable of this name
abbrev pub variable_of : Identifier → PatternVariable
variable_of name = record { place = name.place; name = name.name; number = 0; is_test = false }

abbrev pub as_variable : Form → Option PatternVariable
as_variable (f.Name name) = Some (variable_of name)
as_variable _ = None

abbrev pub as_text : Form → Option (List ℕ)
as_text (f.Text text) = Some text
as_text _ = None
