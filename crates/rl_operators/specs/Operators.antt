-- What each operator answers. An operand of a kind that is not named throws `WrongKind()`.
use Rattle.std.specs.Prelude.{[], ◌∷◌, ◌++◌, filter, not, ◌+ℤ◌, ◌-ℤ◌, ◌*ℤ◌, neg_ℤ, None}
use Rattle.rl_value.specs.Plain.{Plain, int, text, location, tuple, list, set, mapping, plains_of, items_of, entries_of}
use Rattle.rl_value.specs.Laws.{plain_eq}
use Rattle.rl_exception.specs.Answer.{Answer, Throws, fitting}
use Rattle.rl_exception.specs.Exceptions.{wrong_kind}
use Rattle.rl_operators.specs.Arithmetic.{whole, quotient, remainder}
use Rattle.rl_operators.specs.Lists.{without_first, without_each}
use Rattle.rl_operators.specs.Sets.{set_of, common, without_all, all_pairs}
use Rattle.rl_operators.specs.Maps.{map_of}
use Rattle.rl_operators.specs.Locations.{with_segment}

abbrev pub add_of : Plain → Plain → Answer
add_of (int m) (int n) = whole (m +ℤ n)
add_of (text a) (text b) = fitting (text (a ++ b))
add_of (list a) (list b) = fitting (list (plains_of (items_of a ++ items_of b)))
add_of (tuple a) (tuple b) = fitting (tuple (plains_of (items_of a ++ items_of b)))
add_of (set a) (set b) = fitting (set_of (items_of a ++ items_of b))
add_of (mapping a) (mapping b) = fitting (map_of (entries_of a ++ entries_of b))
-- the span is dropped
add_of (location scheme path span) (text segment) = fitting (location scheme (with_segment path segment) None)
-- at the end of a list, into a set, at the front of a list
add_of (list a) x = fitting (list (plains_of (items_of a ++ x ∷ [])))
add_of (set a) x = fitting (set_of (items_of a ++ x ∷ []))
add_of x (list b) = fitting (list (plains_of (x ∷ items_of b)))
add_of x (set b) = fitting (set_of (x ∷ items_of b))
add_of a b = Throws wrong_kind

abbrev pub subtract_of : Plain → Plain → Answer
subtract_of (int m) (int n) = whole (m -ℤ n)
subtract_of (set a) (set b) = fitting (set_of (without_all (items_of a) (items_of b)))
subtract_of (set a) x = fitting (set_of (filter (λ y. not (plain_eq y x)) (items_of a)))
subtract_of (list a) (list b) = fitting (list (plains_of (without_each (items_of b) (items_of a))))
subtract_of (list a) x = fitting (list (plains_of (without_first x (items_of a))))
subtract_of a b = Throws wrong_kind

abbrev pub multiply_of : Plain → Plain → Answer
multiply_of (int m) (int n) = whole (m *ℤ n)
multiply_of (set a) (set b) = fitting (set_of (all_pairs (items_of a) (items_of b)))
multiply_of a b = Throws wrong_kind

abbrev pub divide_of : Plain → Plain → Answer
divide_of (int m) (int n) = quotient m n
divide_of a b = Throws wrong_kind

abbrev pub remainder_of : Plain → Plain → Answer
remainder_of (int m) (int n) = remainder m n
remainder_of a b = Throws wrong_kind

abbrev pub intersect_of : Plain → Plain → Answer
intersect_of (set a) (set b) = fitting (set_of (common (items_of a) (items_of b)))
intersect_of a b = Throws wrong_kind

abbrev pub negate_of : Plain → Answer
negate_of (int n) = whole (neg_ℤ n)
negate_of a = Throws wrong_kind
