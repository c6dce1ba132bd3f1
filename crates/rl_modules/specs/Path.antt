-- The path of a module's file.
use Rattle.std.specs.Prelude.{ℕ, ◌==◌, List, [], ◌∷◌, ◌++◌, flat_map, codes}
use Rattle.std.specs.List.{slice_split}

-- what stands between two colons is empty, and stands for a slash
abbrev pub part_of : List ℕ → List ℕ
part_of [] = 47 ∷ []
part_of (c ∷ cs) = c ∷ cs

-- the root's folder; an empty root stands for none
abbrev pub folder_of : List ℕ → List ℕ
folder_of [] = []
folder_of (c ∷ cs) = (c ∷ cs) ++ 47 ∷ []

-- a::b under the root r has the path r/a/b.rsc
abbrev pub path_of : (root name : List ℕ) → List ℕ
path_of root name = folder_of root ++ flat_map part_of (slice_split (λ c. c == 58) name) ++ codes ".rsc"
