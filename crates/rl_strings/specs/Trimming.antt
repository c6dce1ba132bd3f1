-- trim.
use Rattle.std.specs.Prelude.{ℕ, ◌-◌, ◌==◌, Bool, ◌||◌, List, length, take, drop}
use Rattle.std.specs.List.{prefix_len, suffix_len}
use Rattle.rl_value.specs.Plain.{Plain, text}
use Rattle.rl_exception.specs.Answer.{Answer, fitting}
use Rattle.rl_arguments.specs.Arguments.{taking, str_in}

-- space, tab, carriage return and line feed
abbrev pub is_blank : ℕ → Bool
is_blank b = (b == 32) || (b == 9) || (b == 13) || (b == 10)

-- behind the longest front of blanks
abbrev pub without_front : List ℕ → List ℕ
without_front bytes = drop (prefix_len is_blank bytes) bytes

-- in front of the longest end of blanks
abbrev pub without_end : List ℕ → List ℕ
without_end bytes = take (length bytes - suffix_len is_blank bytes) bytes

abbrev pub trim_of : Plain → Answer
trim_of t = taking (str_in t) (λ bytes. fitting (text (without_end (without_front bytes))))
