-- Paths of locations.
use Rattle.std.specs.Prelude.{ℕ, List, [], ◌∷◌, ◌++◌, codes}

-- a path with one more segment, after a slash unless it is empty
abbrev pub with_segment : List ℕ → List ℕ → List ℕ
with_segment [] segment = segment
with_segment (byte ∷ bytes) segment = (byte ∷ bytes) ++ codes "/" ++ segment
