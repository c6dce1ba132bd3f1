-- The variables that patterns test.
use Rattle.std.specs.Prelude.{ℕ, nat_eq, not, ◌&&◌, Bool, List, [], ◌∷◌, ◌++◌, filter, flat_map}
use Rattle.std.specs.List.{list_any}
use Rattle.rl_syntax.specs.declared.fragment.Piece.{Piece}
use Rattle.rl_syntax.specs.declared.fragment.Piece.TheVariants.{Text, Hole}
use Rattle.rl_syntax.specs.declared.identifier.PatternVariable.{PatternVariable}
use Rattle.rl_syntax.specs.declared.pattern.Pattern.{Pattern}
use Rattle.rl_syntax.specs.declared.pattern.Pattern.TheOpen as p
use Rattle.rl_syntax.specs.declared.pattern.PatternElement.{PatternElement}
use Rattle.rl_match.specs.Folds.{fold_within, of_element, levels}

abbrev pub Variables : Type 0
Variables = List PatternVariable

abbrev pub all_of : List Variables → Variables
all_of [] = []
all_of (xs ∷ rest) = xs ++ all_of rest

abbrev pub in_holes : List Piece → Variables
in_holes [] = []
in_holes (Text text ∷ pieces) = in_holes pieces
in_holes (Hole sort x ∷ pieces) = x ∷ in_holes pieces

abbrev pub in_form : p.Pattern-F Variables Variables → Variables
in_form (p.TypedBinding place ty x inner) = x ∷ inner
in_form (p.Binding place x inner) = x ∷ inner
in_form (p.Negation place inner) = inner
in_form (p.Descendant place inner) = inner
in_form (p.Fragment place fragment) = in_holes fragment.pieces
in_form (p.Constructor place name parts) = all_of parts
in_form (p.TypedVariable place ty x) = x ∷ []
in_form (p.TypedWildcard place ty) = []
in_form (p.List place elements) = all_of elements
in_form (p.Set place elements) = all_of elements
in_form (p.Tuple place parts) = all_of parts
in_form (p.Integer place number) = []
in_form (p.Text place text) = []
in_form (p.Location place path) = []
in_form (p.Truth place truth) = []
in_form (p.Wildcard place) = []
in_form (p.Variable place x) = x ∷ []

abbrev pub in_element : p.PatternElement-F Variables Variables → Variables
in_element (p.AnyRest place) = []
in_element (p.TypedRest place ty x) = x ∷ []
in_element (p.Rest place x) = x ∷ []
in_element (p.Single inner) = inner

-- the variables of a pattern, in text order
unfoldable pub variables_in : Pattern → Variables
variables_in = fold_within levels in_form in_element

unfoldable pub element_variables : PatternElement → Variables
element_variables = of_element in_element variables_in

abbrev pub sets : ℕ → PatternVariable → Bool
sets number x = not x.is_test && nat_eq number x.number

-- the tests of variables that the patterns themselves do not set, in text order
abbrev pub outside_among : Variables → Variables
outside_among xs = filter (λ x. x.is_test && not (list_any (sets x.number) xs)) xs

abbrev pub outside_tests : List Pattern → Variables
outside_tests patterns = outside_among (flat_map variables_in patterns)
