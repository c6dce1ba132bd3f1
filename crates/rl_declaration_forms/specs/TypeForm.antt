-- Types.
use Rattle.std.specs.Prelude.{ℕ, ◌==◌, List, ◌∷◌, Option, Some, None, if◌then◌else◌, slice_get}
use Rattle.std.specs.List.{filter_map}
use Rattle.rl_base.specs.declared.place.Place.{Place}
use Rattle.rl_syntax.specs.declared.ty.Ty.{Ty}
use Rattle.rl_syntax.specs.declared.ty.Ty.TheVariants as t
use Rattle.rl_tokens.specs.declared.terminal.TheConstants.{BOOL_TYPE, INT_TYPE, STR_TYPE, LOC_TYPE, VOID_TYPE, VALUE_TYPE, LIST_TYPE, SET_TYPE, MAP_TYPE, TUPLE_TYPE, REL_TYPE, LREL_TYPE}
use Rattle.rl_forms.specs.declared.form.Form.{Form}
use Rattle.rl_forms.specs.declared.form.Form.TheVariants as f
use Rattle.rl_forms.specs.Part.{first_in, given, or_else}
use Rattle.rl_forms.specs.Declarations.{as_field, as_type}

-- a type of one word
abbrev pub plain_type : Place → ℕ → Option Ty
plain_type place word =
    if word == BOOL_TYPE then Some (t.Bool place)
    else (if word == INT_TYPE then Some (t.Int place)
    else (if word == STR_TYPE then Some (t.Str place)
    else (if word == LOC_TYPE then Some (t.Loc place)
    else (if word == VOID_TYPE then Some (t.Void place)
    else (if word == VALUE_TYPE then Some (t.Value place) else None)))))

-- from the first type to the second
abbrev pub map_type : Place → List Ty → Option Ty
map_type place (key ∷ value ∷ types) = Some (t.Map place key value)
map_type place types = None

-- lists, sets, maps, tuples, or sets or lists of tuples
abbrev pub compound_type : Place → ℕ → List Form → Option Ty
compound_type place word parts =
    if word == LIST_TYPE then given (first_in as_type parts) (λ element. Some (t.List place element))
    else (if word == SET_TYPE then given (first_in as_type parts) (λ element. Some (t.Set place element))
    else (if word == MAP_TYPE then map_type place (filter_map as_type parts)
    else (if word == TUPLE_TYPE then Some (t.Tuple place (filter_map as_field parts))
    else (if word == REL_TYPE then Some (t.Relation place (filter_map as_field parts))
    else (if word == LREL_TYPE then Some (t.ListRelation place (filter_map as_field parts)) else None)))))

abbrev pub type_by_word : Place → ℕ → List Form → Option Ty
type_by_word place word parts = or_else (plain_type place word) (compound_type place word parts)

abbrev pub type_from : Place → List Form → Option Form → Option Ty
type_from place parts (Some (f.Name name)) = Some (t.Named place name.name)
type_from place parts (Some (f.Word at word)) = type_by_word place word parts
type_from place parts _ = None

-- a type, by its first token
unfoldable pub type_of : Place → List Form → Option Ty
type_of place parts = type_from place parts (slice_get parts 0)
