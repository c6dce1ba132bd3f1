-- What an operation answers: a value, or an exception that it throws.
use Rattle.std.specs.Prelude.{◌≡◌, ◌^◌, Bool, ◌&&◌, nat_le, if◌then◌else◌}
use Rattle.std.specs.declared.result.Result.{Result}
use Rattle.std.specs.declared.result.Result.TheVariants.{Ok, Err}
use Rattle.rl_value.specs.Plain.{Plain, plain_size, plain_height}
use Rattle.rl_exception.specs.Exceptions.{too_large}
use Rattle.rl_exception.specs.declared.op_end.OpEnd.{OpEnd}
use Rattle.rl_exception.specs.declared.op_end.OpEnd.TheVariants.{Throw, OutOfMemory}

pub data Answer : Type 0 where
  Gives : Plain → Answer
  Throws : Plain → Answer

-- neither too large nor too high
unfoldable pub fits : Plain → Bool
fits t = nat_le (plain_size t) (2 ^ 24) && nat_le (plain_height t) 2000

-- the value where it fits
unfoldable pub fitting : Plain → Answer
fitting t = if fits t then Gives t else Throws too_large

-- the exception where it fits
unfoldable pub throwing : Plain → Answer
throwing t = if fits t then Throws t else Throws too_large

-- an operation that answers a did not give a value
abbrev pub Ends : Answer → OpEnd → Type 0
Ends a (Throw exception) = a ≡ Throws exception
Ends a OutOfMemory = Unit {0}

-- an operation that answers a went so
abbrev pub Answers : Answer → Result Plain OpEnd → Type 0
Answers a (Ok v) = a ≡ Gives v
Answers a (Err end) = Ends a end
