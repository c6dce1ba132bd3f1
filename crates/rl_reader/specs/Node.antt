-- What a phrase says, from what its parts say.
use Rattle.std.specs.Prelude.{ℕ, List, [], ◌∷◌, Option, Some, None}
use Rattle.rl_base.specs.declared.place.Place.{Place}
use Rattle.rl_forms.specs.declared.form.Form.{Form}
use Rattle.rl_forms.specs.declared.form.Form.TheVariants as f
use Rattle.rl_forms.specs.Part.{or_else}
use Rattle.rl_expression_forms.specs.Rule.{expression_form}
use Rattle.rl_pattern_forms.specs.Rule.{pattern_form}
use Rattle.rl_statement_forms.specs.Rule.{statement_form}
use Rattle.rl_declaration_forms.specs.Rule.{declaration_form}
use Rattle.rl_production_forms.specs.Rule.{grammar_form}

-- where the form begins, if its parts are not those of its rule
abbrev pub unknown : Form → Option Place
unknown (f.Unknown place) = Some place
unknown _ = None

-- where the first of those begins
abbrev pub first_unknown : List Form → Option Place
first_unknown [] = None
first_unknown (form ∷ forms) = or_else (unknown form) (first_unknown forms)

-- no rule is of two of these kinds
unfoldable pub form_of_rule : ℕ → Place → List Form → Option Form
form_of_rule rule place parts =
    or_else (expression_form rule place parts)
    (or_else (pattern_form rule place parts)
    (or_else (statement_form rule place parts)
    (or_else (declaration_form rule place parts) (grammar_form rule place parts))))

abbrev pub form_or_unknown : Option Form → Place → Form
form_or_unknown (Some form) place = form
form_or_unknown None place = f.Unknown place

-- the first of the parts that is unknown, or else this
abbrev pub unless_unknown : Option Place → Form → Form
unless_unknown (Some first) form = f.Unknown first
unless_unknown None form = form

-- of several unknown forms the one that begins first in the text counts
unfoldable pub form_of_node : ℕ → Place → List Form → Form
form_of_node rule place parts = unless_unknown (first_unknown parts) (form_or_unknown (form_of_rule rule place parts) place)
