-- Whole numbers.
use Rattle.std.specs.Prelude.{ℤ, pos, negsuc, int_div, int_rem, ◌^◌, Bool, nat_lt, if◌then◌else◌}
use Rattle.rl_value.specs.Plain.{int}
use Rattle.rl_exception.specs.Answer.{Answer, Gives, Throws}
use Rattle.rl_exception.specs.Exceptions.{out_of_range, divided_by_zero}

-- from -2^127 to 2^127 - 1; `negsuc n` is -(n + 1)
abbrev pub is_in_range : ℤ → Bool
is_in_range (pos n) = nat_lt n (2 ^ 127)
is_in_range (negsuc n) = nat_lt n (2 ^ 127)

-- a number as a result
unfoldable pub whole : ℤ → Answer
whole n = if is_in_range n then Gives (int n) else Throws out_of_range

abbrev pub is_zero : ℤ → Bool
is_zero (pos n) = nat_lt n 1
is_zero (negsuc n) = nat_lt 1 0

-- towards zero
abbrev pub quotient : ℤ → ℤ → Answer
quotient m n = if is_zero n then Throws divided_by_zero else whole (int_div m n)

-- with the sign of m
abbrev pub remainder : ℤ → ℤ → Answer
remainder m n = if is_zero n then Throws divided_by_zero else whole (int_rem m n)
