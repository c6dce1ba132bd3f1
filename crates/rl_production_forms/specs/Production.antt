-- Productions, alternatives and levels.
use Rattle.std.specs.Prelude.{ℕ, if◌then◌else◌, List, Option, Some, None, slice_get, codes}
use Rattle.std.specs.List.{filter_map}
use Rattle.std.specs.Str.{bytes_eq}
use Rattle.rl_base.specs.declared.place.Place.{Place}
use Rattle.rl_productions.specs.declared.definition.Alt.{Alt}
use Rattle.rl_productions.specs.declared.definition.Assoc.{Assoc}
use Rattle.rl_productions.specs.declared.definition.Assoc.TheVariants as a
use Rattle.rl_productions.specs.declared.definition.Level.{Level}
use Rattle.rl_productions.specs.declared.definition.Prod.{Prod}
use Rattle.rl_tokens.specs.declared.terminal.TheConstants.{COLON}
use Rattle.rl_forms.specs.declared.form.Form.{Form}
use Rattle.rl_forms.specs.declared.form.Form.TheVariants as f
use Rattle.rl_forms.specs.Part.{given, last_in, part_at}
use Rattle.rl_forms.specs.Words.{has_word}
use Rattle.rl_forms.specs.Names.{as_name}
use Rattle.rl_forms.specs.Productions.{as_alternative, as_mark, as_production, as_symbol}

-- the label stands before a colon; the word `bracket` may stand before it
unfoldable pub label_of : List Form → Option (List ℕ × Place)
label_of parts = if has_word COLON parts then given (last_in as_name parts) (λ name. Some (name.name, name.place)) else None

abbrev pub production_of : List Form → Prod
production_of parts = record { label = label_of parts; symbols = filter_map as_symbol parts }

abbrev pub associativity_named : List ℕ → Option Assoc
associativity_named name =
    if bytes_eq name (codes "left") then Some a.Left
    else (if bytes_eq name (codes "right") then Some a.Right
    else (if bytes_eq name (codes "assoc") then Some a.Assoc else None))

abbrev pub associativity_from : Option Form → Option Assoc
associativity_from (Some (f.Word place word)) = Some a.NonAssoc
associativity_from (Some (f.Name name)) = associativity_named name.name
associativity_from _ = None

-- the only mark that is no name is non-assoc
unfoldable pub associativity_of : List Form → Option Assoc
associativity_of parts = associativity_from (slice_get parts 0)

-- a production with a mark, or several in parentheses
abbrev pub alternative_of : List Form → Alt
alternative_of parts = record { mark = part_at as_mark parts 0; prods = filter_map as_production parts }

abbrev pub level_of : List Form → Level
level_of parts = record { alts = filter_map as_alternative parts }
