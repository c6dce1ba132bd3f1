-- The arguments that library functions take, and what comes of an argument of another kind.
use Rattle.std.specs.Prelude.{ℕ, List, [], Option, Some, None}
use Rattle.rl_value.specs.Plain.{Plain, text, list, set, mapping, plains_of, pairs_of, items_of, entries_of}
use Rattle.rl_value.specs.Order.{plain_cmp}
use Rattle.rl_value.specs.Rising.{rising}
use Rattle.rl_value.specs.Entries.{put_all}
use Rattle.rl_exception.specs.Answer.{Answer, Gives, Throws}
use Rattle.rl_exception.specs.Exceptions.{wrong_kind}

-- what a function answers that takes an argument of a kind: WrongKind() where it is of another
abbrev pub taking : {A : Type 0} → Option A → (A → Answer) → Answer
taking None answer = Throws wrong_kind
taking (Some argument) answer = answer argument

-- the value, or the exception that is thrown where there is none
abbrev pub given_or : Plain → Option Plain → Answer
given_or exception None = Throws exception
given_or exception (Some t) = Gives t

abbrev pub list_in : Plain → Option (List Plain)
list_in (list ts) = Some (items_of ts)
list_in t = None

-- the elements rise
abbrev pub set_in : Plain → Option (List Plain)
set_in (set ts) = Some (items_of ts)
set_in t = None

-- keys with their values; the keys rise
abbrev pub entries_in : Plain → Option (List (Plain × Plain))
entries_in (mapping ps) = Some (entries_of ps)
entries_in t = None

abbrev pub str_in : Plain → Option (List ℕ)
str_in (text bytes) = Some bytes
str_in t = None

-- the values that these make
abbrev pub list_of : List Plain → Plain
list_of ts = list (plains_of ts)

abbrev pub set_of : List Plain → Plain
set_of ts = set (plains_of (rising plain_cmp ts))

abbrev pub map_of : List (Plain × Plain) → Plain
map_of ps = mapping (pairs_of (put_all [] ps))
