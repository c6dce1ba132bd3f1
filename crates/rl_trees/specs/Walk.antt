-- The trees of a sort in a syntax tree, as a walk from the left meets them: a tree before its parts.
use Rattle.std.specs.Prelude.{ℕ, ◌+◌, nat_eq, Bool, true, false, ◌&&◌, List, [], ◌∷◌, ◌++◌}
use Rattle.std.specs.Cmp.Lexicographic.{pointwise}
use Rattle.rl_value.specs.declared.shape.Role.{Role}
use Rattle.rl_value.specs.declared.shape.Role.TheVariants.{Rep, Opt}
use Rattle.rl_value.specs.Plain.{Shape, Plain, tree, Plains, nil, cons}
use Rattle.rl_trees.specs.declared.walk.Span.{Span}
use Rattle.rl_trees.specs.Counts.{characters, all_characters}

-- repetitions and options are not listed
abbrev pub has_sort : Role → Bool
has_sort Rep = false
has_sort Opt = false
has_sort role = true

abbrev pub is_listed : List ℕ → Shape → Bool
is_listed sort shape = has_sort shape.role && pointwise nat_eq shape.sort sort

abbrev pub with_itself : Bool → Span → List Span → List Span
with_itself true span spans = span ∷ spans
with_itself false span spans = spans

abbrev mutual
  -- at an offset
  pub walk : List ℕ → ℕ → Plain → List Span
  walk sort at (tree shape ts) =
      with_itself (is_listed sort shape) (record { offset = at; length = all_characters ts; tree = tree shape ts }) (walk_all sort at ts)
  walk sort at t = []

  pub walk_all : List ℕ → ℕ → Plains → List Span
  walk_all sort at nil = []
  walk_all sort at (cons t ts) = walk sort at t ++ walk_all sort (at + characters t) ts
