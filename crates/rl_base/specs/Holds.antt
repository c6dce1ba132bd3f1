-- The files that there are, where they are told.
use Rattle.std.specs.Prelude.{ℕ, List, Option}
use Rattle.std.specs.Ordering.{nat_cmp}
use Rattle.std.specs.Cmp.Lexicographic.{slice_cmp}
use Rattle.std.specs.Coded.{Coded, coded_list, coded_ℕ}
use Rattle.std.specs.FinMap.{FinMap, get, code}

-- from the bytes of a path to the bytes of its file
abbrev pub FileMap : Type 0
FileMap = FinMap (slice_cmp nat_cmp) (List ℕ)

abbrev pub file_map_code : Coded FileMap
file_map_code = code (coded_list coded_ℕ) (coded_list coded_ℕ)

abbrev pub Holds : Type 0
Holds = Option FileMap

-- the bytes of a path's file, if it is there
abbrev pub file_at : FileMap → List ℕ → Option (List ℕ)
file_at files path = get files path
