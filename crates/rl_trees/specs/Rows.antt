-- spans and unparse.
use Rattle.std.specs.Prelude.{ℕ, pos, List, [], ◌∷◌, map, Option, Some, None}
use Rattle.rl_value.specs.Plain.{Plain, int, text, tuple, tree, plains_of, plain_text}
use Rattle.rl_exception.specs.Answer.{Answer, fitting}
use Rattle.rl_arguments.specs.Arguments.{taking, str_in, list_of}
use Rattle.rl_trees.specs.declared.walk.Span.{Span}
use Rattle.rl_trees.specs.Walk.{walk}
use Rattle.rl_trees.specs.Order.{in_order}

abbrev pub tree_in : Plain → Option Plain
tree_in (tree shape ts) = Some (tree shape ts)
tree_in t = None

-- an offset, a length and a tree
abbrev pub row : Span → Plain
row span = tuple (plains_of (int (pos span.offset) ∷ int (pos span.length) ∷ span.tree ∷ []))

abbrev pub spans_in : List ℕ → Plain → List Plain
spans_in sort t = map row (in_order (walk sort 0 t))

abbrev pub spans_of : Plain → Plain → Answer
spans_of t s = taking (tree_in t) (λ whole. taking (str_in s) (λ sort. fitting (list_of (spans_in sort whole))))

abbrev pub unparse_of : Plain → Answer
unparse_of t = taking (tree_in t) (λ whole. fitting (text (plain_text whole)))
