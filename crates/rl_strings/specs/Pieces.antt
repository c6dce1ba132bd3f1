-- split and replaceAll.
use Rattle.std.specs.Prelude.{ℕ, zero, suc, ◌+◌, List, [], ◌∷◌, ◌++◌, length, take, drop, map, Option, Some, None}
use Rattle.rl_value.specs.Plain.{Plain, text}
use Rattle.rl_exception.specs.Answer.{Answer, throwing, fitting}
use Rattle.rl_exception.specs.Exceptions.{illegal_argument}
use Rattle.rl_arguments.specs.Arguments.{taking, str_in, list_of}
use Rattle.rl_strings.specs.Search.{first_at}

-- what stands in front of the separator's place, and the pieces of what stands behind it
abbrev pub around : (List ℕ → List (List ℕ)) → List ℕ → List ℕ → Option ℕ → List (List ℕ)
around behind separator whole None = whole ∷ []
around behind separator whole (Some place) = take place whole ∷ behind (drop (place + length separator) whole)

-- the pieces around the first n occurrences of a separator that is not empty
abbrev pub pieces : ℕ → List ℕ → List ℕ → List (List ℕ)
pieces zero separator whole = whole ∷ []
pieces (suc n) separator whole = around (pieces n separator) separator whole (first_at separator whole)

-- the pieces around all occurrences, from the left; they do not overlap
abbrev pub all_pieces : List ℕ → List ℕ → List (List ℕ)
all_pieces separator whole = pieces (length whole) separator whole

abbrev pub split_by : List ℕ → List ℕ → Answer
split_by [] whole = throwing (illegal_argument (text []))
split_by (b ∷ bs) whole = fitting (list_of (map text (all_pieces (b ∷ bs) whole)))

abbrev pub split_of : Plain → Plain → Answer
split_of s t = taking (str_in s) (λ separator. taking (str_in t) (split_by separator))

-- the texts with another between two
abbrev pub joined : List ℕ → List (List ℕ) → List ℕ
joined between [] = []
joined between (x ∷ []) = x
joined between (x ∷ y ∷ ys) = x ++ between ++ joined between (y ∷ ys)

abbrev pub replaced : List ℕ → List ℕ → List ℕ → Answer
replaced whole [] replacement = throwing (illegal_argument (text []))
replaced whole (b ∷ bs) replacement = fitting (text (joined replacement (all_pieces (b ∷ bs) whole)))

abbrev pub replace_all_of : Plain → Plain → Plain → Answer
replace_all_of t f r = taking (str_in t) (λ whole. taking (str_in f) (λ part. taking (str_in r) (replaced whole part)))
