-- Comparisons: of numbers, of texts by their bytes, and of sets by their elements.
use Rattle.std.specs.Prelude.{Bool, not, List}
use Rattle.std.specs.declared.cmp.Ordering.{Ordering}
use Rattle.std.specs.Ordering.{int_cmp, is_lt, is_le}
use Rattle.rl_value.specs.Plain.{Plain, bool, int, text, set, items_of}
use Rattle.rl_value.specs.Order.{bytes_cmp}
use Rattle.rl_value.specs.Laws.{plain_eq}
use Rattle.rl_exception.specs.Answer.{Answer, Gives, Throws}
use Rattle.rl_exception.specs.Exceptions.{wrong_kind}
use Rattle.rl_operators.specs.Sets.{is_subset, is_proper_subset}

-- numbers and texts by what their order answers, sets by the relation
abbrev pub compared : (Ordering → Bool) → (List Plain → List Plain → Bool) → Plain → Plain → Answer
compared test relation (int m) (int n) = Gives (bool (test (int_cmp m n)))
compared test relation (text a) (text b) = Gives (bool (test (bytes_cmp a b)))
compared test relation (set a) (set b) = Gives (bool (relation (items_of a) (items_of b)))
compared test relation a b = Throws wrong_kind

abbrev pub less_of : Plain → Plain → Answer
less_of = compared is_lt is_proper_subset

abbrev pub less_or_equal_of : Plain → Plain → Answer
less_or_equal_of = compared is_le is_subset

abbrev pub greater_of : Plain → Plain → Answer
greater_of a b = less_of b a

abbrev pub greater_or_equal_of : Plain → Plain → Answer
greater_or_equal_of a b = less_or_equal_of b a

abbrev pub equal_of : Plain → Plain → Answer
equal_of a b = Gives (bool (plain_eq a b))

abbrev pub not_equal_of : Plain → Plain → Answer
not_equal_of a b = Gives (bool (not (plain_eq a b)))
