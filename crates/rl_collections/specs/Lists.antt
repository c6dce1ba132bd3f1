-- reverse, take, drop, indexOf and toSet.
use Rattle.std.specs.Prelude.{ℕ, ℤ, pos, negsuc, List, [], ◌∷◌, Option, Some, None, take, drop, reverse, position}
use Rattle.rl_value.specs.Plain.{Plain, int}
use Rattle.rl_value.specs.Readers.{as_int}
use Rattle.rl_value.specs.Laws.{plain_eq}
use Rattle.rl_exception.specs.Answer.{Answer, Gives, throwing, fitting}
use Rattle.rl_exception.specs.Exceptions.{illegal_argument}
use Rattle.rl_arguments.specs.Arguments.{taking, list_in, list_of, set_of}

abbrev pub reverse_of : Plain → Answer
reverse_of t = taking (list_in t) (λ ts. fitting (list_of (reverse ts)))

-- the first elements; all where there are fewer
abbrev pub front_of : ℤ → List Plain → Answer
front_of (pos n) ts = fitting (list_of (take n ts))
front_of (negsuc n) ts = throwing (illegal_argument (int (negsuc n)))

abbrev pub take_of : Plain → Plain → Answer
take_of n t = taking (as_int n) (λ k. taking (list_in t) (front_of k))

-- the elements behind the first ones; none where there are fewer
abbrev pub back_of : ℤ → List Plain → Answer
back_of (pos n) ts = fitting (list_of (drop n ts))
back_of (negsuc n) ts = throwing (illegal_argument (int (negsuc n)))

abbrev pub drop_of : Plain → Plain → Answer
drop_of n t = taking (as_int n) (λ k. taking (list_in t) (back_of k))

abbrev pub place_or_minus_one : Option ℕ → ℤ
place_or_minus_one None = negsuc 0
place_or_minus_one (Some place) = pos place

abbrev pub index_of : Plain → Plain → Answer
index_of t x = taking (list_in t) (λ ts. Gives (int (place_or_minus_one (position (λ u. plain_eq u x) ts))))

abbrev pub to_set_of : Plain → Answer
to_set_of t = taking (list_in t) (λ ts. fitting (set_of ts))
