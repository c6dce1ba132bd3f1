-- What a phrase of declarations says, by its rule.
use Rattle.std.specs.Prelude.{ℕ, ◌==◌, if◌then◌else◌, List, Option, Some, None}
use Rattle.std.specs.Option.{option_map}
use Rattle.rl_base.specs.declared.place.Place.{Place}
use Rattle.rl_phrase_table.specs.declared.rules.TheConstants.{IMPORT, DATA_DEFINITION, GLOBAL, FUNCTION, QUALIFIED_NAME, VARIANT, FIELD, TYPE}
use Rattle.rl_forms.specs.declared.form.Form.{Form}
use Rattle.rl_forms.specs.declared.form.Form.TheVariants as f
use Rattle.rl_declaration_forms.specs.Declaration.{import_of, qualified_name_of}
use Rattle.rl_declaration_forms.specs.Constructor.{data_of, variant_of}
use Rattle.rl_declaration_forms.specs.Function.{function_of, global_of}
use Rattle.rl_declaration_forms.specs.Field.{named_field_of}
use Rattle.rl_declaration_forms.specs.TypeForm.{type_of}

unfoldable pub declaration_form : ℕ → Place → List Form → Option Form
declaration_form rule place parts =
    if rule == IMPORT then option_map f.Declaration (import_of place parts)
    else (if rule == DATA_DEFINITION then option_map f.Declaration (data_of place parts)
    else (if rule == GLOBAL then option_map f.Declaration (global_of place parts)
    else (if rule == FUNCTION then option_map f.Declaration (function_of place parts)
    else (if rule == QUALIFIED_NAME then Some (qualified_name_of place parts)
    else (if rule == VARIANT then option_map f.Variant (variant_of parts)
    else (if rule == FIELD then option_map f.Field (named_field_of parts)
    else (if rule == TYPE then option_map f.Type (type_of place parts) else None)))))))
