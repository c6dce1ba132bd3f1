-- The six strategies on small values.
use Rattle.std.specs.Prelude.{◌≡◌, ℕ, zero, suc, pos, List, [], ◌∷◌, ◌++◌, Option, Some, None, codes}
use Rattle.rl_syntax.specs.declared.operator.Strategy.{Strategy}
use Rattle.rl_syntax.specs.declared.operator.Strategy.TheVariants.{Innermost, Outermost, TopDown, TopDownBreak, BottomUp, BottomUpBreak}
use Rattle.rl_types.specs.Declarations.{Declarations}
use Rattle.rl_types.specs.PlainType.{named}
use Rattle.rl_value.specs.Plain.{Plain, int, list, node, nil, cons}
use Rattle.rl_visit.specs.Walk.{Answer, no, changed, Walked, ask, end, visit_type, too_large, walk}

-- data T = f(T t) | a();
abbrev pub declarations : Declarations
declarations = record {
  data_types = codes "T" ∷ [];
  constructors = (record { owner = codes "T"; name = codes "f"; fields = (codes "t", named (codes "T")) ∷ [] }) ∷ (record { owner = codes "T"; name = codes "a"; fields = [] }) ∷ [];
  sorts = [];
}

-- f(x)
abbrev pub f : Plain → Plain
f x = node (codes "f") (cons x nil)

-- a()
abbrev pub a : Plain
a = node (codes "a") nil

-- goes on with the answer of the node that is asked, up to the end of the walk
abbrev pub goes_on : (Plain → Answer) → (List Answer → Option Plain) → List Answer → Walked → Option Plain
goes_on answer go given (ask place u) = go (given ++ answer u ∷ [])
goes_on answer go given (end w served left) = Some w
goes_on answer go given visit_type = None
goes_on answer go given too_large = None

-- what a walk ends in that takes fewer answers than this number
unfoldable pub ends_in : ℕ → (Plain → Answer) → Strategy → Plain → List Answer → Option Plain
ends_in zero answer strategy v given = None
ends_in (suc n) answer strategy v given = goes_on answer (ends_in n answer strategy v) given (walk declarations strategy v given)

abbrev pub ends : (Plain → Answer) → Strategy → Plain → Option Plain
ends answer strategy v = ends_in 20 answer strategy v []

-- case f(x) => x
abbrev pub without_f : Plain → Answer
without_f (node name (cons x nil)) = changed x
without_f v = no

-- visit (f(f(a()))) { case f(x) => x }
abbrev pub SixStrategies : Type 0
SixStrategies =
    (ends without_f TopDown (f (f a)) ≡ Some (f a)) × (ends without_f TopDownBreak (f (f a)) ≡ Some (f a)) × (ends without_f BottomUp (f (f a)) ≡ Some a)
    × (ends without_f BottomUpBreak (f (f a)) ≡ Some (f a)) × (ends without_f Innermost (f (f a)) ≡ Some a) × (ends without_f Outermost (f (f a)) ≡ Some a)

-- case 0 => 1 case 1 => 2
abbrev pub counting : Plain → Answer
counting (int (pos zero)) = changed (int (pos 1))
counting (int (pos (suc zero))) = changed (int (pos 2))
counting v = no

-- [n]
abbrev pub one : ℕ → Plain
one n = list (cons (int (pos n)) nil)

-- visit ([0]) { case 0 => 1 case 1 => 2 }: once, or until nothing changes
abbrev pub Repeating : Type 0
Repeating =
    (ends counting BottomUp (one 0) ≡ Some (one 1)) × (ends counting Innermost (one 0) ≡ Some (one 2))
    × (ends counting TopDown (one 0) ≡ Some (one 1)) × (ends counting Outermost (one 0) ≡ Some (one 2))
