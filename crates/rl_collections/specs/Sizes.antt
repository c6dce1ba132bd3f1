-- size and isEmpty.
use Rattle.std.specs.Prelude.{ℕ, pos, ◌==◌, List, length, Option, Some, None}
use Rattle.std.specs.Str.{chars}
use Rattle.rl_value.specs.Plain.{Plain, bool, int, text, list, set, mapping, items_of, entries_of}
use Rattle.rl_exception.specs.Answer.{Answer, Gives}
use Rattle.rl_arguments.specs.Arguments.{taking}

-- how many elements a collection has, or characters a text
abbrev pub count_in : Plain → Option ℕ
count_in (list ts) = Some (length (items_of ts))
count_in (set ts) = Some (length (items_of ts))
count_in (mapping ps) = Some (length (entries_of ps))
count_in (text bytes) = Some (length (chars bytes))
count_in t = None

abbrev pub size_of : Plain → Answer
size_of t = taking (count_in t) (λ n. Gives (int (pos n)))

abbrev pub is_empty_of : Plain → Answer
is_empty_of t = taking (count_in t) (λ n. Gives (bool (n == 0)))
