-- Where the lines of a text begin.
use Rattle.std.specs.Prelude.{ℕ, ◌+◌, ◌*◌, ◌≤◌, ◌<◌, List, [], ◌∷◌, if◌then◌else◌, ◌==◌, length, slice_index}

-- the offsets behind the line feeds, where the first character has the offset n
abbrev pub line_starts : ℕ → List ℕ → List ℕ
line_starts n [] = []
line_starts n (c ∷ cs) = if c == 10 then (n + 1) ∷ line_starts (n + 1) cs else line_starts (n + 1) cs

-- each number is less than those behind it
abbrev pub Rises : List ℕ → Type 0
Rises numbers = (i j : ℕ) → i < j → j < length numbers → slice_index numbers i < slice_index numbers j

-- so many of the numbers are at most the bound: those in front
pub record IsCount (numbers : List ℕ) (bound count : ℕ) : Type 0 where
  pub within : count ≤ length numbers
  pub below : (k : ℕ) → k < count → slice_index numbers k ≤ bound
  pub above : (k : ℕ) → count ≤ k → k < length numbers → bound < slice_index numbers k

-- for each block of 64 offsets, how many of the numbers are at most its first
abbrev pub AreCounts : List ℕ → List ℕ → Type 0
AreCounts numbers counts = (b : ℕ) → b < length counts → IsCount numbers (64 * b) (slice_index counts b)
