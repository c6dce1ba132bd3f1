-- sum.
use Rattle.std.specs.Prelude.{ℤ, pos, negsuc, ◌+ℤ◌, ◌^◌, nat_lt, Bool, true, false, List, [], ◌∷◌, Option, Some, None, if◌then◌else◌}
use Rattle.rl_value.specs.Plain.{Plain, int}
use Rattle.rl_value.specs.Readers.{as_int}
use Rattle.rl_exception.specs.Answer.{Answer, Gives, Throws}
use Rattle.rl_exception.specs.Exceptions.{out_of_range}
use Rattle.rl_arguments.specs.Arguments.{taking}
use Rattle.rl_collections.specs.Sorting.{elements_in}

-- from -2^127 to 2^127 - 1; `negsuc n` is -(n + 1)
abbrev pub is_in_range : ℤ → Bool
is_in_range (pos n) = nat_lt n (2 ^ 127)
is_in_range (negsuc n) = nat_lt n (2 ^ 127)

abbrev pub in_front : Option ℤ → Option (List ℤ) → Option (List ℤ)
in_front (Some n) (Some ns) = Some (n ∷ ns)
in_front n ns = None

-- the numbers, where each element is one
abbrev pub numbers_in : List Plain → Option (List ℤ)
numbers_in [] = Some []
numbers_in (t ∷ ts) = in_front (as_int t) (numbers_in ts)

-- the numbers added to the total from the left
abbrev pub added : ℤ → List ℤ → Answer
added total [] = Gives (int total)
added total (n ∷ ns) = if is_in_range (total +ℤ n) then added (total +ℤ n) ns else Throws out_of_range

abbrev pub sum_of : Plain → Answer
sum_of t = taking (elements_in t) (λ ts. taking (numbers_in ts) (added (pos 0)))
