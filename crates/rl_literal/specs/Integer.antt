-- Integers.
use Rattle.std.specs.Prelude.{ℕ, ◌+◌, ◌-◌, ◌*◌, ◌^◌, min, List, [], ◌∷◌}

-- one more digit behind a number; there is no integer above 2^127 - 1
abbrev pub with_digit : ℕ → ℕ → ℕ
with_digit n c = min (n * 10 + (c - 48)) (2 ^ 127 - 1)

-- the number that the digits write behind those of n
abbrev pub number_from : ℕ → List ℕ → ℕ
number_from n [] = n
number_from n (c ∷ digits) = number_from (with_digit n c) digits

unfoldable pub integer_in : List ℕ → ℕ
integer_in digits = number_from 0 digits
