-- The modules that are built in and read no file.
use Rattle.std.specs.Prelude.{ℕ, Bool, List, [], ◌∷◌, codes}
use Rattle.std.specs.List.{list_any}
use Rattle.std.specs.Str.{bytes_eq}

abbrev pub built_in_names : List (List ℕ)
built_in_names =
    codes "IO" ∷ codes "List" ∷ codes "Set" ∷ codes "Map" ∷ codes "Relation" ∷ codes "String" ∷ codes "ParseTree" ∷ codes "Exception" ∷ []

-- the name is one of them
abbrev pub is_built_in : List ℕ → Bool
is_built_in name = list_any (bytes_eq name) built_in_names
