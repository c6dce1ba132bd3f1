-- What `a[from..to]` gives.
use Rattle.std.specs.Prelude.{◌≡◌, ℕ, ℤ, pos, negsuc, ◌+ℤ◌, ◌&&◌, nat_le, length, slice_range, Option, Some, None, Result, Ok, Err, if◌then◌else◌, ◌-◌}
use Rattle.std.specs.Str.{chars}
use Rattle.std.specs.Option.{ok_or}
use Rattle.rl_value.specs.Plain.{Plain, text, list, plains_of, items_of}
use Rattle.rl_value.specs.Readers.{as_int}
use Rattle.rl_access.specs.Operands.{piece_of}
use Rattle.rl_exception.specs.Answer.{Answer, Throws, fitting}
use Rattle.rl_exception.specs.Exceptions.{wrong_kind, index_out_of_bounds}
use Rattle.rl_exception.specs.declared.op_end.OpEnd.{OpEnd}
use Rattle.rl_exception.specs.declared.op_end.OpEnd.TheVariants.{Throw, OutOfMemory}

-- a bound among n elements, where a negative one adds the length
abbrev pub counted : ℕ → ℤ → ℤ
counted n (pos i) = pos i
counted n (negsuc i) = negsuc i +ℤ pos n

-- z where it is from low to high
abbrev pub within : ℕ → ℕ → ℤ → Option ℕ
within low high (pos z) = if nat_le low z && nat_le z high then Some z else None
within low high (negsuc z) = None

-- the place from low to high that i names among high elements
abbrev pub place_between : ℕ → ℕ → ℤ → Option ℕ
place_between low high i = within low high (counted high i)

-- a bound among n elements that is not below low; a missing one is `missing`
abbrev pub bound_of : ℕ → ℕ → ℕ → Option ℤ → Result ℕ Plain
bound_of n missing low None = Ok missing
bound_of n missing low (Some i) = ok_or (place_between low n i) (index_out_of_bounds i)

-- what is found, or the exception, and what is looked for then
abbrev pub and_then : {A B : Type 0} → Result A Plain → (A → Result B Plain) → Result B Plain
and_then (Ok x) f = f x
and_then (Err exception) f = Err exception

-- first the bound `from`, then the bound `to` from there on
abbrev pub bounds_of : ℕ → Option ℤ → Option ℤ → Result (ℕ × ℕ) Plain
bounds_of n from to = and_then (bound_of n 0 0 from) (λ start. and_then (bound_of n n start to) (λ end. Ok (start, end)))

-- the number that a bound is, if there is a bound
abbrev pub number_of : Option Plain → Result (Option ℤ) Plain
number_of None = Ok None
number_of (Some t) = and_then (ok_or (as_int t) wrong_kind) (λ i. Ok (Some i))

-- the kinds of both bounds are looked at before their places
abbrev pub cut_of : ℕ → Option Plain → Option Plain → Result (ℕ × ℕ) Plain
cut_of n from to = and_then (number_of from) (λ a. and_then (number_of to) (bounds_of n a))

-- the value that is cut out, or the exception
abbrev pub cut_out : (ℕ → ℕ → Plain) → Result (ℕ × ℕ) Plain → Answer
cut_out piece (Ok p) = fitting (piece p.0 p.1)
cut_out piece (Err exception) = Throws exception

abbrev pub slice_of : Plain → Option Plain → Option Plain → Answer
slice_of (list ts) from to = cut_out (λ i j. list (plains_of (slice_range (items_of ts) i j))) (cut_of (length (items_of ts)) from to)
-- by characters
slice_of (text bytes) from to = cut_out (λ i j. text (piece_of bytes i (j - i))) (cut_of (length (chars bytes)) from to)
slice_of a from to = Throws wrong_kind

-- how looking for something went
abbrev pub Finds : {A : Type 0} → Result A Plain → Result A OpEnd → Type 0
Finds r (Ok x) = r ≡ Ok x
Finds r (Err (Throw exception)) = r ≡ Err exception
Finds r (Err OutOfMemory) = Unit {0}
