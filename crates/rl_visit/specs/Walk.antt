-- A walk over the nodes of a value in the order of a strategy, by lists of answers.
use Rattle.std.specs.Prelude.{ℕ, zero, suc, Bool, true, false, ◌||◌, ◌&&◌, if◌then◌else◌, nat_le, ◌^◌, List, [], ◌∷◌, ◌++◌, length, map, Option, Some, None, bytes_eq}
use Rattle.std.specs.List.{list_all, zip}
use Rattle.rl_syntax.specs.declared.operator.Strategy.{Strategy}
use Rattle.rl_syntax.specs.declared.operator.Strategy.TheVariants.{Innermost, Outermost, TopDown, TopDownBreak, BottomUp, BottomUpBreak}
use Rattle.rl_value.specs.Plain.{Plain, node, tree, plain_size, plain_height}
use Rattle.rl_value.specs.Kids.{kids as kids_of, renew}
use Rattle.rl_value.specs.Laws.{plain_eq}
use Rattle.rl_types.specs.PlainType.{PlainType}
use Rattle.rl_types.specs.Declarations.{Declarations, Constructor, constructor}
use Rattle.rl_types.specs.Types.{has}

-- what is answered at a node
pub data Answer : Type 0 where
  -- nothing served it
  no : Answer
  -- it was served, and stays
  kept : Answer
  -- it was served, and this value stands in its place
  changed : Plain → Answer

-- where a node stands: the number of the child at each step from the root down
abbrev pub Position : Type 0
Position = List ℕ

-- what comes of a walk
pub data Walked : Type 0 where
  -- the answers are used up at this node, which stands there
  ask : Position → Plain → Walked
  -- it ends in this value; whether something was served, and the answers that are left
  end : Plain → Bool → List Answer → Walked
  -- a value would stand where its type, or sort, does not fit
  visit_type : Walked
  -- a value would pass a limit
  too_large : Walked

abbrev pub Going : Type 0
Going = Plain → Bool → List Answer → Walked

-- goes on from the end of a walk
abbrev pub on_end : Walked → Going → Walked
on_end (end v served given) go = go v served given
on_end (ask place v) go = ask place v
on_end visit_type go = visit_type
on_end too_large go = too_large

-- what comes of a walk over a child, in the walk over its parent
abbrev pub in_child : ℕ → Walked → Walked
in_child number (ask place v) = ask (number ∷ place) v
in_child number (end v served given) = end v served given
in_child number visit_type = visit_type
in_child number too_large = too_large

-- the node takes an answer
abbrev pub at_node : Plain → List Answer → Going → Walked
at_node v [] go = ask [] v
at_node v (no ∷ given) go = go v false given
at_node v (kept ∷ given) go = go v true given
at_node v (changed u ∷ given) go = go u true given

-- the children, each with what came of it, so that neither is without the other
abbrev pub Children : Type 0
Children = List (Plain × Plain)

-- a walk of each child, from the left, after those that are done
abbrev pub each_kid : (Plain → List Answer → Walked) → Children → List Plain → Bool → List Answer → (Children → Bool → List Answer → Walked) → Walked
each_kid walk done [] served given go = go done served given
each_kid walk done (kid ∷ kids) served given go =
    on_end (in_child (length done) (walk kid given)) (λ v s left. each_kid walk (done ++ (kid, v) ∷ []) kids (served || s) left go)

-- Renewal.

-- each field has its type; there are as many, since the constructor was found by their number (`FieldsAreAsMany`)
abbrev pub fields_have : Declarations → List (List ℕ × PlainType) → List Plain → Bool
fields_have d fields vs = list_all (λ p. has d p.1 p.0.1) (zip fields vs)

-- the types of the fields, as far as they are declared
abbrev pub constructor_has : Declarations → Option Constructor → List Plain → Bool
constructor_has d None vs = true
constructor_has d (Some c) vs = fields_have d c.fields vs

abbrev pub is_of_sort : List ℕ → Plain → Bool
is_of_sort sort (tree shape ts) = bytes_eq sort shape.sort
is_of_sort sort v = false

-- a tree of the sort of the one whose place it takes; the children of a tree are trees
abbrev pub takes_place : Plain → Plain → Bool
takes_place (tree shape ts) v = is_of_sort shape.sort v
takes_place u v = false

-- what came of the children
abbrev pub came_of : Children → List Plain
came_of ks = map (λ k. k.1) ks

-- whether the value may have what came of its children in their place
abbrev pub may_have : Declarations → Plain → Children → Bool
may_have d (node name ts) ks = constructor_has d (constructor d name (length ks)) (came_of ks)
may_have d (tree shape ts) ks = list_all (λ k. takes_place k.0 k.1) ks
may_have d v ks = true

abbrev pub is_unchanged : Children → Bool
is_unchanged ks = list_all (λ k. plain_eq k.0 k.1) ks

abbrev pub fits : Plain → Bool
fits v = nat_le (plain_size v) (2 ^ 24) && nat_le (plain_height v) 2000

abbrev pub fitting : Plain → Bool → List Answer → Going → Walked
fitting v served given go = if fits v then go v served given else too_large

-- where a child changed, the value with what came of them: first they are tested, and then the limits
abbrev pub renewed : Declarations → Plain → Children → Bool → List Answer → Going → Walked
renewed d v ks served given go =
    if is_unchanged ks then go v served given
    else if may_have d v ks then fitting (renew v (came_of ks)) served given go
    else visit_type

-- The strategies, by a walk of the children.

-- the children, and then the node
abbrev pub node_last : Declarations → (Plain → List Answer → Walked) → Plain → List Answer → Walked
node_last d walk v given =
    each_kid walk [] (kids_of v) false given (λ ks below left.
    renewed d v ks below left (λ u s more.
    at_node u more (λ w here rest. end w (s || here) rest)))

-- the children, and then the node where none below it was served
abbrev pub node_last_break : Declarations → (Plain → List Answer → Walked) → Plain → List Answer → Walked
node_last_break d walk v given =
    each_kid walk [] (kids_of v) false given (λ ks below left.
    renewed d v ks below left (λ u s more.
    if s then end u true more else at_node u more end))

-- the node, and then the children of what came of it
abbrev pub node_first : Declarations → (Plain → List Answer → Walked) → Plain → List Answer → Walked
node_first d walk v given =
    at_node v given (λ u here left.
    each_kid walk [] (kids_of u) here left (λ ks served more.
    renewed d u ks served more end))

-- the node, and then its children where it was not served
abbrev pub node_first_break : Declarations → (Plain → List Answer → Walked) → Plain → List Answer → Walked
node_first_break d walk v given =
    at_node v given (λ u here left.
    if here then end u true left
    else each_kid walk [] (kids_of u) false left (λ ks served more. renewed d u ks served more end))

-- a walk; where it leaves the value equal it is the last, and else `go` goes on
abbrev pub once_more : (Plain → List Answer → Walked) → Going → Going
once_more walk go v served given =
    on_end (walk v given) (λ u s left. if plain_eq v u then end u (served || s) left else go u (served || s) left)

-- A number bounds how often a walk nests. Children from below nest no deeper than the value is high, and each other walk takes an answer before it nests: so no bound is reached (`WalksAreByForm`).

abbrev pub bottom_up : ℕ → Declarations → Plain → List Answer → Walked
bottom_up zero d v given = ask [] v
bottom_up (suc k) d v given = node_last d (bottom_up k d) v given

abbrev pub bottom_up_break : ℕ → Declarations → Plain → List Answer → Walked
bottom_up_break zero d v given = ask [] v
bottom_up_break (suc k) d v given = node_last_break d (bottom_up_break k d) v given

abbrev pub top_down : ℕ → Declarations → Plain → List Answer → Walked
top_down zero d v given = ask [] v
top_down (suc k) d v given = node_first d (top_down k d) v given

abbrev pub top_down_break : ℕ → Declarations → Plain → List Answer → Walked
top_down_break zero d v given = ask [] v
top_down_break (suc k) d v given = node_first_break d (top_down_break k d) v given

abbrev pub until_equal : ℕ → (Plain → List Answer → Walked) → Going
until_equal zero walk v served given = ask [] v
until_equal (suc k) walk v served given = once_more walk (until_equal k walk) v served given

-- a walk again and again, until one leaves the value equal
abbrev pub repeated : (Plain → List Answer → Walked) → Going
repeated walk v served given = until_equal (suc (length given)) walk v served given

abbrev pub from_below : Declarations → Plain → List Answer → Walked
from_below d v given = bottom_up (plain_height v) d v given

abbrev pub from_above : Declarations → Plain → List Answer → Walked
from_above d v given = top_down (suc (length given)) d v given

-- what comes of a walk over the value with these answers
unfoldable pub walk : Declarations → Strategy → Plain → List Answer → Walked
walk d BottomUp v given = from_below d v given
walk d BottomUpBreak v given = bottom_up_break (plain_height v) d v given
walk d TopDown v given = from_above d v given
walk d TopDownBreak v given = top_down_break (suc (length given)) d v given
walk d Innermost v given = repeated (from_below d) v false given
walk d Outermost v given = repeated (from_above d) v false given
