-- Locations.
use Rattle.std.specs.Prelude.{ℕ, ◌-◌, ◌==◌, if◌then◌else◌, List, length, take, drop, slice_index, Option, Some, None, encode_utf8_all}
use Rattle.std.specs.Str.{chars}

-- what stands between the eight characters `|cwd:///` and the last one
abbrev pub path_of : List ℕ → List ℕ
path_of text = take (length text - 9) (drop 8 text)

-- the path of `|cwd:///path|`; `|unknown:///|` has none
unfoldable pub path_in : List ℕ → Option (List ℕ)
path_in bytes = if slice_index (chars bytes) 1 == 99 then Some (encode_utf8_all (path_of (chars bytes))) else None
