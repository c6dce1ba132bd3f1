-- What a phrase of syntax definitions says, by its rule.
use Rattle.std.specs.Prelude.{ℕ, ◌==◌, if◌then◌else◌, List, Option, Some, None}
use Rattle.std.specs.Option.{option_map}
use Rattle.rl_base.specs.declared.place.Place.{Place}
use Rattle.rl_phrase_table.specs.declared.rules.TheConstants.{SYNTAX_DEFINITION, LEVEL, ALTERNATIVE, ASSOCIATIVITY, PRODUCTION, SYMBOL, ADJOINING, REPETITION, ATOM, CHARACTERS}
use Rattle.rl_forms.specs.declared.form.Form.{Form}
use Rattle.rl_forms.specs.declared.form.Form.TheVariants as f
use Rattle.rl_forms.specs.declared.form.GrammarForm.{GrammarForm}
use Rattle.rl_forms.specs.declared.form.GrammarForm.TheVariants as g
use Rattle.rl_production_forms.specs.Atom.{atom_of, class_of, near_of, repetition_of}
use Rattle.rl_production_forms.specs.Symbol.{symbol_of}
use Rattle.rl_production_forms.specs.Production.{alternative_of, associativity_of, level_of, production_of}
use Rattle.rl_production_forms.specs.Definition.{definition_of}

-- a part of a definition
unfoldable pub part_of : ℕ → Place → List Form → Option GrammarForm
part_of rule place parts =
    if rule == LEVEL then Some (g.Level (level_of parts))
    else (if rule == ALTERNATIVE then Some (g.Alternative (alternative_of parts))
    else (if rule == ASSOCIATIVITY then option_map g.Associativity (associativity_of parts)
    else (if rule == PRODUCTION then Some (g.Production (production_of parts))
    else (if rule == SYMBOL then option_map g.Symbol (symbol_of parts)
    else (if rule == ADJOINING then option_map g.Near (near_of parts)
    else (if rule == REPETITION then option_map g.Repetition (repetition_of parts)
    else (if rule == ATOM then option_map g.Atom (atom_of parts)
    else (if rule == CHARACTERS then option_map g.Class (class_of place parts) else None))))))))

unfoldable pub grammar_form : ℕ → Place → List Form → Option Form
grammar_form rule place parts =
    if rule == SYNTAX_DEFINITION then option_map f.Declaration (definition_of place parts) else option_map f.Grammar (part_of rule place parts)
