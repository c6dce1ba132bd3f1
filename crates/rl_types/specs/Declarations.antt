-- What a program declares, as contracts see it.
use Rattle.std.specs.Prelude.{ℕ, Bool, ◌==◌, ◌&&◌, List, length, find, Option}
use Rattle.std.specs.List.{list_any}
use Rattle.std.specs.Str.{bytes_eq}
use Rattle.rl_types.specs.PlainType.{PlainType}

-- names are their bytes in UTF-8
pub record Constructor : Type 0 where
  -- its data type
  pub owner : List ℕ
  pub name : List ℕ
  -- the name and type of each field; the name is empty where it has none
  pub fields : List (List ℕ × PlainType)

pub record Declarations : Type 0 where
  pub data_types : List (List ℕ)
  pub constructors : List Constructor
  pub sorts : List (List ℕ)

abbrev pub is_data : Declarations → List ℕ → Bool
is_data d name = list_any (bytes_eq name) d.data_types

abbrev pub is_sort : Declarations → List ℕ → Bool
is_sort d name = list_any (bytes_eq name) d.sorts

-- it has the name and as many fields
abbrev pub is_constructor : List ℕ → ℕ → Constructor → Bool
is_constructor name count c = bytes_eq name c.name && length c.fields == count

-- the first constructor with the name and as many fields
abbrev pub constructor : Declarations → List ℕ → ℕ → Option Constructor
constructor d name count = find (is_constructor name count) d.constructors
