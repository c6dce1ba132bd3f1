-- head, last and tail.
use Rattle.std.specs.Prelude.{ℕ, ◌-◌, List, [], ◌∷◌, length, slice_get}
use Rattle.rl_value.specs.Plain.{Plain}
use Rattle.rl_exception.specs.Answer.{Answer, Throws, fitting}
use Rattle.rl_exception.specs.Exceptions.{empty_list}
use Rattle.rl_arguments.specs.Arguments.{taking, given_or, list_in, list_of}

abbrev pub head_of : Plain → Answer
head_of t = taking (list_in t) (λ ts. given_or empty_list (slice_get ts 0))

abbrev pub last_of : Plain → Answer
last_of t = taking (list_in t) (λ ts. given_or empty_list (slice_get ts (length ts - 1)))

abbrev pub behind_first : List Plain → Answer
behind_first [] = Throws empty_list
behind_first (t ∷ ts) = fitting (list_of ts)

abbrev pub tail_of : Plain → Answer
tail_of t = taking (list_in t) behind_first
