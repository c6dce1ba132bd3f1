-- What a read answers, where the files are told.
use Rattle.std.specs.Prelude.{◌≡◌, ℕ, nat_le, if◌then◌else◌, length, List, Option, Some, None, Result, Ok, Err}
use Rattle.std.specs.declared.vec.Vec.{Vec}
use Rattle.std.specs.declared.alloc.Global.{Global}
use Rattle.rl_base.specs.Holds.{Holds, file_at}
use Rattle.rl_base.specs.declared.files.ReadEnd.{ReadEnd}
use Rattle.rl_base.specs.declared.files.ReadEnd.TheVariants.{Missing, TooLong, Failed, OutOfMemory}

-- where nothing goes wrong: the bytes, if there are any and they are not too many
abbrev pub answer_of : Option (List ℕ) → ℕ → Result (List ℕ) ReadEnd
answer_of None limit = Err Missing
answer_of (Some bytes) limit = if nat_le (length bytes) limit then Ok bytes else Err TooLong

-- the answer is that one, unless the outside or memory failed
abbrev pub IsAnswer : Result (List ℕ) ReadEnd → Result (Vec ℕ Global) ReadEnd → Type 0
IsAnswer meant (Ok bytes) = meant ≡ Ok bytes.items
IsAnswer meant (Err Missing) = meant ≡ Err Missing
IsAnswer meant (Err TooLong) = meant ≡ Err TooLong
IsAnswer meant (Err Failed) = Unit {0}
IsAnswer meant (Err OutOfMemory) = Unit {0}

abbrev pub ReadAnswer : Holds → List ℕ → ℕ → Result (Vec ℕ Global) ReadEnd → Type 0
ReadAnswer None path limit result = Unit {0}
ReadAnswer (Some files) path limit result = IsAnswer (answer_of (file_at files path) limit) result
