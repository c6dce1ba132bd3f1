-- toInt.
use Rattle.std.specs.Prelude.{ℕ, ℤ, pos, negsuc, neg_ℤ, ◌^◌, nat_lt, Bool, ◌&&◌, List, drop, length, Option, Some, None, if◌then◌else◌}
use Rattle.std.specs.Char.{digit_value}
use Rattle.std.specs.List.{list_all}
use Rattle.std.specs.Str.Parse.{digits_value, starts_with_minus}
use Rattle.rl_value.specs.Plain.{Plain, int, text}
use Rattle.rl_exception.specs.Answer.{Answer, Gives, throwing}
use Rattle.rl_exception.specs.Exceptions.{illegal_argument}
use Rattle.rl_arguments.specs.Arguments.{taking, str_in}

-- from -2^127 to 2^127 - 1; `negsuc n` is -(n + 1)
abbrev pub is_in_range : ℤ → Bool
is_in_range (pos n) = nat_lt n (2 ^ 127)
is_in_range (negsuc n) = nat_lt n (2 ^ 127)

-- what stands behind the sign
abbrev pub behind_minus : List ℕ → List ℕ
behind_minus bytes = if starts_with_minus bytes then drop 1 bytes else bytes

-- the number that a minus, or none, and digits write
abbrev pub number_of : List ℕ → ℤ
number_of bytes = if starts_with_minus bytes then neg_ℤ (pos (digits_value 10 (behind_minus bytes))) else pos (digits_value 10 (behind_minus bytes))

-- an ASCII digit; the value of another character is at least 10
abbrev pub is_digit : ℕ → Bool
is_digit c = nat_lt (digit_value c) 10

-- a minus or none and one or more digits, which write a number in range
abbrev pub is_number : List ℕ → Bool
is_number bytes = nat_lt 0 (length (behind_minus bytes)) && (list_all is_digit (behind_minus bytes) && is_in_range (number_of bytes))

abbrev pub number_in : List ℕ → Option ℤ
number_in bytes = if is_number bytes then Some (number_of bytes) else None

abbrev pub number_or_refused : List ℕ → Option ℤ → Answer
number_or_refused bytes None = throwing (illegal_argument (text bytes))
number_or_refused bytes (Some n) = Gives (int n)

abbrev pub to_int_of : Plain → Answer
to_int_of t = taking (str_in t) (λ bytes. number_or_refused bytes (number_in bytes))
