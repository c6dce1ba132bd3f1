-- A table of files as a map.
use Rattle.std.specs.Prelude.{ℕ, List, map, string_bytes}
use Rattle.std.specs.declared.string.String.{String}
use Rattle.std.specs.declared.vec.Vec.{Vec}
use Rattle.std.specs.declared.alloc.Global.{Global}
use Rattle.std.specs.FinMap.{from_entries}
use Rattle.rl_base.specs.Holds.{FileMap}

-- the bytes of a path and of its file
abbrev pub plain : String Global × Vec ℕ Global → List ℕ × List ℕ
plain entry = (string_bytes entry.0, entry.1.items)

abbrev pub files_of : List (String Global × Vec ℕ Global) → FileMap
files_of entries = from_entries (map plain entries)
