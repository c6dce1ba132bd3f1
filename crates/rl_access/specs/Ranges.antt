-- What `[a..b]` and `[a, next..b]` give.
use Rattle.std.specs.Prelude.{ℕ, zero, suc, ◌^◌, ℤ, pos, negsuc, ◌+ℤ◌, ◌-ℤ◌, int_lt, nat_lt, unsigned_abs, Bool, List, [], ◌∷◌, map, take_while, Option, Some, None, if◌then◌else◌}
use Rattle.rl_value.specs.Plain.{Plain, int, list, plains_of}
use Rattle.rl_value.specs.Readers.{as_int}
use Rattle.rl_exception.specs.Answer.{Answer, Throws, fitting}
use Rattle.rl_exception.specs.Exceptions.{out_of_range}
use Rattle.rl_access.specs.Operands.{of_int}

-- the n numbers from a on, each one step after the one before
abbrev pub by_steps : ℕ → ℤ → ℤ → List ℤ
by_steps zero a step = []
by_steps (suc n) a step = a ∷ by_steps n (a +ℤ step) step

-- from a on by steps, upward while below b, downward while above it: no more numbers than b is away
abbrev pub counted_to : ℤ → ℤ → ℤ → List ℤ
counted_to b a (pos zero) = []
counted_to b a (pos (suc n)) = take_while (λ x. int_lt x b) (by_steps (unsigned_abs (b -ℤ a)) a (pos (suc n)))
counted_to b a (negsuc n) = take_while (λ x. int_lt b x) (by_steps (unsigned_abs (b -ℤ a)) a (negsuc n))

abbrev pub numbers : List ℤ → Plain
numbers ns = list (plains_of (map int ns))

-- whether a number is one of the language
abbrev pub is_in_range : ℤ → Bool
is_in_range (pos n) = nat_lt n (2 ^ 127)
is_in_range (negsuc n) = nat_lt n (2 ^ 127)

-- by 1, or by -1 where b is below a
abbrev pub one_step : ℤ → ℤ → ℤ
one_step a b = if int_lt b a then negsuc 0 else pos 1

abbrev pub stepped_to : ℤ → ℤ → ℤ → Answer
stepped_to b a next = if is_in_range (next -ℤ a) then fitting (numbers (counted_to b a (next -ℤ a))) else Throws out_of_range

abbrev pub range_of : Plain → Option Plain → Plain → Answer
range_of a None b = of_int (as_int a) (λ m. of_int (as_int b) (λ n. fitting (numbers (counted_to n m (one_step m n)))))
range_of a (Some next) b = of_int (as_int a) (λ m. of_int (as_int next) (λ s. of_int (as_int b) (λ n. stepped_to n m s)))
