-- Integers.
use Rattle.std.specs.Prelude.{ℕ, ◌+◌, ◌-◌, ◌*◌, ◌^◌, Bool, if◌then◌else◌, ◌==◌, nat_le, List, [], ◌∷◌, slice_index}
use Rattle.std.specs.List.{prefix_len}
use Rattle.rl_tokens.specs.Set.{is_in}
use Rattle.rl_tokens.specs.declared.set.Set.TheVariants as set

-- a 0 stands alone
abbrev pub integer_len : List ℕ → ℕ
integer_len text = if slice_index text 0 == 48 then 1 else prefix_len (is_in set.Digit) text

-- the number that the digits write behind those of n
abbrev pub number_from : ℕ → List ℕ → ℕ
number_from n [] = n
number_from n (c ∷ digits) = number_from (n * 10 + (c - 48)) digits

-- above 2^127 - 1
unfoldable pub is_wide : List ℕ → Bool
is_wide digits = nat_le (2 ^ 127) (number_from 0 digits)
