-- The declarations that a table of them holds, and how they are found in it.
use Rattle.std.specs.Prelude.{◌≡◌, ℕ, List, [], map, filter, Option, Some, None}
use Rattle.std.specs.List.{list_any}
use Rattle.std.specs.Option.{option_map_or}
use Rattle.std.specs.Str.{bytes_eq}
use Rattle.std.specs.BTreeMap.{get_by_text}
use Rattle.std.specs.BTreeSet.{contains_text}
use Rattle.rl_syntax.specs.declared.ty.Field.{Field, out-Field}
use Rattle.rl_types.specs.PlainType.{PlainType, field_type}
use Rattle.rl_types.specs.Declarations.{Constructor, Declarations}
use Rattle.rl_types.specs.declared.constructor.Constructor as c
use Rattle.rl_types.specs.declared.decls.Table.{Table}

-- the name of a field, which is empty where it has none, and its type
abbrev pub field_of : Field → List ℕ × PlainType
field_of field = (option_map_or (λ name. name.name) (out-Field field).name [], field_type field)

abbrev pub constructor_of : c.Constructor → Constructor
constructor_of c = record { owner = c.owner; name = c.name; fields = map field_of c.fields }

abbrev pub declarations_in : Table → Declarations
declarations_in t = record { data_types = t.data_types.items; constructors = map constructor_of t.constructors.items; sorts = t.sorts.items }

-- names are found in a set of them, and the constructors of a name in a map from names
pub record IsIndexed (t : Table) : Type 0 where
  pub data_types : (name : List ℕ) → contains_text t.data_type_names name ≡ list_any (bytes_eq name) t.data_types.items
  pub sorts : (name : List ℕ) → contains_text t.sort_names name ≡ list_any (bytes_eq name) t.sorts.items
  pub constructors : (name : List ℕ) → option_map_or (λ found. found.items) (get_by_text t.constructors_by_name name) [] ≡ filter (λ c. bytes_eq name c.name) t.constructors.items
