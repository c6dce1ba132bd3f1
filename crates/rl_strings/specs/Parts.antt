-- substring.
use Rattle.std.specs.Prelude.{ℕ, ℤ, pos, negsuc, ◌-◌, ◌&&◌, nat_le, List, length, take, drop, Option, Some, None, if◌then◌else◌, encode_utf8_all}
use Rattle.std.specs.Str.{chars}
use Rattle.rl_value.specs.Plain.{Plain, text}
use Rattle.rl_value.specs.Readers.{as_int}
use Rattle.rl_exception.specs.Answer.{Answer, Throws, fitting}
use Rattle.rl_exception.specs.Exceptions.{index_out_of_bounds}
use Rattle.rl_arguments.specs.Arguments.{taking, str_in}

-- the place that i is, from low to high
abbrev pub place_from : ℕ → ℕ → ℤ → Option ℕ
place_from low high (pos i) = if nat_le low i && nat_le i high then Some i else None
place_from low high (negsuc i) = None

-- what comes of the place that i is
abbrev pub at_place : ℤ → (ℕ → Answer) → Option ℕ → Answer
at_place i answer None = Throws (index_out_of_bounds i)
at_place i answer (Some place) = answer place

-- the characters from a up to b; a is looked at first
abbrev pub part_of : List ℕ → ℤ → ℤ → Answer
part_of cs a b =
    at_place a (λ from. at_place b (λ to. fitting (text (encode_utf8_all (take (to - from) (drop from cs))))) (place_from from (length cs) b)) (place_from 0 (length cs) a)

abbrev pub substring_of : Plain → Plain → Plain → Answer
substring_of t a b = taking (str_in t) (λ bytes. taking (as_int a) (λ i. taking (as_int b) (part_of (chars bytes) i)))
