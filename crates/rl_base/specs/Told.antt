-- What a sink was told, where it says so.
use Rattle.std.specs.Prelude.{◌≡◌, ℕ, List, ◌++◌, take, Option, Some, None}

abbrev pub Told : Type 0
Told = Option (List ℕ)

-- it was told these bytes, and nothing else; nothing is said of a sink that did not say what it was told before
abbrev pub Grows : Told → List ℕ → Told → Type 0
Grows None bytes after = Unit {0}
Grows (Some before) bytes after = after ≡ Some (before ++ bytes)

-- it was told a front of the piece, and nothing else
abbrev pub TakesPart : Told → List ℕ → Told → Type 0
TakesPart before piece after = (k : ℕ) × Grows before (take k piece) after

abbrev pub IsPrefixOf : List ℕ → List ℕ → Type 0
IsPrefixOf xs ys = (rest : List ℕ) × (xs ++ rest ≡ ys)
