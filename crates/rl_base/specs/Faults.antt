-- Counts of calls and of faults.
use Rattle.std.specs.Prelude.{◌≡◌, ℕ, ◌+◌, ◌<◌, ◌⊎◌, min}

-- where a count stays once it is there: 2^64 - 1
abbrev pub last_count : ℕ
last_count = 18446744073709551615

-- a count after one more
abbrev pub count_after : ℕ → ℕ
count_after count = min (count + 1) last_count

-- it rose between the two, or it stands where it can rise no more
abbrev pub Rose : ℕ → ℕ → Type 0
Rose before after = (before < after) ⊎ (after ≡ last_count)
