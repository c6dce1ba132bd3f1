-- What operands ask for, and the exception that is thrown where they ask in vain.
use Rattle.std.specs.Prelude.{ℕ, ℤ, pos, negsuc, suc, ◌-◌, nat_lt, List, length, take, drop, encode_utf8_all, slice_get, Option, Some, None, if◌then◌else◌}
use Rattle.std.specs.Option.{option_and_then}
use Rattle.std.specs.Str.{chars}
use Rattle.rl_value.specs.Plain.{Plain}
use Rattle.rl_exception.specs.Answer.{Answer, Gives, Throws}
use Rattle.rl_exception.specs.Exceptions.{wrong_kind, index_out_of_bounds}

-- what an operand that is to be a number leads to
abbrev pub of_int : Option ℤ → (ℤ → Answer) → Answer
of_int None f = Throws wrong_kind
of_int (Some n) f = f n

-- what is found, or what happens where nothing is
abbrev pub found_or : Answer → Option Plain → Answer
found_or otherwise None = otherwise
found_or otherwise (Some t) = Gives t

-- the place that i names among n; a negative one counts from the end
abbrev pub place_of : ℕ → ℤ → Option ℕ
place_of n (pos i) = if nat_lt i n then Some i else None
place_of n (negsuc i) = if nat_lt i n then Some (n - suc i) else None

-- the element that i names
abbrev pub at_index : {A : Type 0} → List A → ℤ → Option A
at_index xs i = option_and_then (slice_get xs) (place_of (length xs) i)

-- what comes of the place that i names, or the exception that there is none
abbrev pub of_place : ℤ → Option ℕ → (ℕ → Answer) → Answer
of_place i None f = Throws (index_out_of_bounds i)
of_place i (Some place) f = f place

-- so many characters of a text from a place on
abbrev pub piece_of : List ℕ → ℕ → ℕ → List ℕ
piece_of bytes place count = encode_utf8_all (take count (drop place (chars bytes)))
