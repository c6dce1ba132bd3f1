-- What operations on relations answer. A relation is a set of pairs; the empty set is one.
use Rattle.std.specs.Prelude.{Bool, true, false, List, map, Option, Some, None}
use Rattle.rl_value.specs.Plain.{Plain}
use Rattle.rl_exception.specs.Answer.{Answer, Throws, fitting}
use Rattle.rl_exception.specs.Exceptions.{wrong_kind}
use Rattle.rl_relation.specs.declared.pairs.Side.{Side}
use Rattle.rl_relation.specs.declared.pairs.Side.TheVariants.{First, Second}
use Rattle.rl_relation.specs.Pairs.{first_of, second_of, swapped, set_of, pairs_in, elements_in, kept, parts_in, joined}

-- what is made of the values of an operand that has them
abbrev pub made_of : Option (List Plain) → (List Plain → Answer) → Answer
made_of None f = Throws wrong_kind
made_of (Some ts) f = f ts

abbrev pub domain_of : Plain → Answer
domain_of a = made_of (pairs_in a) (λ ps. fitting (set_of (map first_of ps)))

abbrev pub range_of : Plain → Answer
range_of a = made_of (pairs_in a) (λ ps. fitting (set_of (map second_of ps)))

abbrev pub carrier_of : Plain → Answer
carrier_of a = made_of (pairs_in a) (λ ps. fitting (set_of (parts_in ps)))

abbrev pub invert_of : Plain → Answer
invert_of a = made_of (pairs_in a) (λ ps. fitting (set_of (map swapped ps)))

-- the pairs of which one part is, or is not, in a set
abbrev pub restricted_of : Side → Bool → Plain → Plain → Answer
restricted_of side wanted a s = made_of (pairs_in a) (λ ps. made_of (elements_in s) (λ xs. fitting (set_of (kept side wanted xs ps))))

abbrev pub domain_restricted_of : Plain → Plain → Answer
domain_restricted_of = restricted_of First true

abbrev pub domain_excluded_of : Plain → Plain → Answer
domain_excluded_of = restricted_of First false

abbrev pub range_restricted_of : Plain → Plain → Answer
range_restricted_of = restricted_of Second true

abbrev pub range_excluded_of : Plain → Plain → Answer
range_excluded_of = restricted_of Second false

-- the pairs <a,c> with <a,b> in a and <b,c> in b
abbrev pub compose_of : Plain → Plain → Answer
compose_of a b = made_of (pairs_in a) (λ ps. made_of (pairs_in b) (λ qs. fitting (set_of (joined ps qs))))
