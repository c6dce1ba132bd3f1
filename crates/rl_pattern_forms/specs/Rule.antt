-- What a phrase of patterns says, by its rule.
use Rattle.std.specs.Prelude.{ℕ, ◌==◌, List, Option, None, if◌then◌else◌}
use Rattle.std.specs.Option.{option_map}
use Rattle.rl_base.specs.declared.place.Place.{Place}
use Rattle.rl_phrase_table.specs.declared.rules.TheConstants.{PATTERN, PLAIN_PATTERN, PATTERN_ELEMENT}
use Rattle.rl_forms.specs.declared.form.Form.{Form}
use Rattle.rl_forms.specs.declared.form.Form.TheVariants as f
use Rattle.rl_pattern_forms.specs.Named.{named_of}
use Rattle.rl_pattern_forms.specs.Plain.{plain_of}
use Rattle.rl_pattern_forms.specs.Elements.{rest_of}

unfoldable pub pattern_form : ℕ → Place → List Form → Option Form
pattern_form rule place parts =
    if rule == PATTERN then option_map f.Pattern (named_of place parts)
    else (if rule == PLAIN_PATTERN then option_map f.Pattern (plain_of place parts)
    else (if rule == PATTERN_ELEMENT then option_map f.PatternElement (rest_of place parts) else None))
