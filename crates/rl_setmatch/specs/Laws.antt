-- What holds of the choices of stars, and of the parts that they make.
use Rattle.std.specs.Prelude.{◌≡◌, ℕ, ◌<◌, ◌==◌, Bool, List, length, map, filter, flat_map, Contains}
use Rattle.std.specs.List.{AllByRecursion, count_by, zip}
use Rattle.std.specs.Ordering.{nat_cmp}
use Rattle.std.specs.Cmp.Lexicographic.{slice_cmp}
use Rattle.rl_value.specs.Plain.{Plain}
use Rattle.rl_value.specs.Rising.{Rises}
use Rattle.rl_setmatch.specs.Divisions.{choices, part, parts}

-- a star below k for each of n elements
abbrev pub IsChoice : ℕ → ℕ → List ℕ → Type 0
IsChoice k n choice = (length choice ≡ n) × AllByRecursion (λ star. star < k) choice

-- all of them, and nothing else
abbrev pub AreAllChoices : ℕ → ℕ → Type 0
AreAllChoices k n = AllByRecursion (IsChoice k n) (choices k n) × ((choice : List ℕ) → IsChoice k n choice → Contains (choices k n) choice)

-- each once, in lexicographic order
abbrev pub Rise : ℕ → ℕ → Type 0
Rise k n = Rises (slice_cmp nat_cmp) (choices k n)

-- the part of a star has the elements with its number, in their order
abbrev pub PartsAreByNumbers : Type 0
PartsAreByNumbers =
    (es : List Plain) (choice : List ℕ) (star : ℕ) → length choice ≡ length es
    → part es choice star ≡ map (λ p. p.0) (filter (λ p. p.1 == star) (zip es choice))

-- no element is lost and none is repeated: whatever is asked of elements, the parts have as many of which it holds as the list
abbrev pub PartsHoldAll : Type 0
PartsHoldAll =
    (es : List Plain) (k : ℕ) (choice : List ℕ) → IsChoice k (length es) choice
    → (holds : Plain → Bool) → count_by holds (flat_map (λ part. part) (parts es k choice)) ≡ count_by holds es
