-- What holds of walks.
use Rattle.std.specs.Prelude.{◌≡◌, ℕ, ⊤, Bool, false, List, [], ◌∷◌, ◌++◌, length}
use Rattle.std.specs.Option.{IfSome}
use Rattle.rl_syntax.specs.declared.operator.Strategy.{Strategy}
use Rattle.rl_syntax.specs.declared.operator.Strategy.TheVariants.{Innermost, Outermost, TopDown, TopDownBreak, BottomUp, BottomUpBreak}
use Rattle.rl_types.specs.Declarations.{Declarations, constructor}
use Rattle.rl_value.specs.Plain.{Plain}
use Rattle.rl_visit.specs.Walk.{Answer, no, kept, changed, Position, ask, node_last, node_last_break, node_first, node_first_break, once_more, repeated, walk}

-- A walk is by the same walk of the children, and a repeated one by its walk and by what is repeated after it. No number bounds them.
pub record WalksAreByForm (d : Declarations) : Type 0 where
  pub bottom_up : (v : Plain) (given : List Answer) → walk d BottomUp v given ≡ node_last d (walk d BottomUp) v given
  pub bottom_up_break : (v : Plain) (given : List Answer) → walk d BottomUpBreak v given ≡ node_last_break d (walk d BottomUpBreak) v given
  pub top_down : (v : Plain) (given : List Answer) → walk d TopDown v given ≡ node_first d (walk d TopDown) v given
  pub top_down_break : (v : Plain) (given : List Answer) → walk d TopDownBreak v given ≡ node_first_break d (walk d TopDownBreak) v given
  pub innermost : (v : Plain) (given : List Answer) → walk d Innermost v given ≡ repeated (walk d BottomUp) v false given
  pub from_below : (v : Plain) (served : Bool) (given : List Answer)
      → repeated (walk d BottomUp) v served given ≡ once_more (walk d BottomUp) (repeated (walk d BottomUp)) v served given
  pub outermost : (v : Plain) (given : List Answer) → walk d Outermost v given ≡ repeated (walk d TopDown) v false given
  pub from_above : (v : Plain) (served : Bool) (given : List Answer)
      → repeated (walk d TopDown) v served given ≡ once_more (walk d TopDown) (repeated (walk d TopDown)) v served given

-- The constructor that is found by the number of values has as many fields, so that in a renewal each value is asked for the type of its field.
abbrev pub FieldsAreAsMany : Type 0
FieldsAreAsMany = (d : Declarations) (name : List ℕ) (count : ℕ) → IfSome (constructor d name count) (λ c. length c.fields ≡ count)

-- The `break` strategies.

-- something served the node
abbrev pub IsServed : Answer → Type 0
IsServed no = ⊥
IsServed kept = ⊤
IsServed (changed u) = ⊤

-- the second place is below the first: the way to it goes on from there
abbrev pub IsBelow : Position → Position → Type 0
IsBelow [] [] = ⊥
IsBelow [] (j ∷ lower) = ⊤
IsBelow (i ∷ place) [] = ⊥
IsBelow (i ∷ place) (j ∷ lower) = (i ≡ j) × IsBelow place lower

-- after these answers a walk asks the node at this place
abbrev pub Asks : Declarations → Strategy → Plain → List Answer → Position → Type 0
Asks d strategy v given place = (u : Plain) × (walk d strategy v given ≡ ask place u)

-- once a node was served, no node below it is asked
abbrev pub AsksNothingBelow : Declarations → Strategy → Type 0
AsksNothingBelow d strategy = (v : Plain) (before after : List Answer) (a : Answer) (served asked : Position)
    → Asks d strategy v before served → IsServed a → Asks d strategy v (before ++ a ∷ after) asked → ¬ IsBelow served asked

-- once a node was served, no node above it is asked
abbrev pub AsksNothingAbove : Declarations → Strategy → Type 0
AsksNothingAbove d strategy = (v : Plain) (before after : List Answer) (a : Answer) (served asked : Position)
    → Asks d strategy v before served → IsServed a → Asks d strategy v (before ++ a ∷ after) asked → ¬ IsBelow asked served
