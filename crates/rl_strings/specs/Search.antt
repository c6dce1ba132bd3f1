-- contains, startsWith and endsWith.
use Rattle.std.specs.Prelude.{ℕ, suc, nat_eq, Bool, List, [], ◌∷◌, Option, Some, None, is_some, if◌then◌else◌}
use Rattle.std.specs.List.{starts_with, ends_with}
use Rattle.std.specs.Option.{option_map}
use Rattle.rl_value.specs.Plain.{Plain, bool}
use Rattle.rl_exception.specs.Answer.{Answer, Gives}
use Rattle.rl_arguments.specs.Arguments.{taking, str_in}

-- the first place at which the part stands in the text
abbrev pub first_at : List ℕ → List ℕ → Option ℕ
first_at part [] = if starts_with nat_eq [] part then Some 0 else None
first_at part (b ∷ bs) = if starts_with nat_eq (b ∷ bs) part then Some 0 else option_map suc (first_at part bs)

-- a test of a text and of what is looked for in it
abbrev pub test_of : (List ℕ → List ℕ → Bool) → Plain → Plain → Answer
test_of test t p = taking (str_in t) (λ text. taking (str_in p) (λ part. Gives (bool (test text part))))

abbrev pub contains_of : Plain → Plain → Answer
contains_of = test_of (λ text part. is_some (first_at part text))

abbrev pub starts_with_of : Plain → Plain → Answer
starts_with_of = test_of (starts_with nat_eq)

abbrev pub ends_with_of : Plain → Plain → Answer
ends_with_of = test_of (ends_with nat_eq)
