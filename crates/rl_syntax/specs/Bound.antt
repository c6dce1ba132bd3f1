-- The variables that a pattern sets.
use Rattle.std.specs.Prelude.{ℕ, List, [], ◌∷◌, ◌++◌, cond, map}
use Rattle.std.specs.List.{concat}
use Rattle.rl_syntax.specs.declared.fragment.Piece.{Piece}
use Rattle.rl_syntax.specs.declared.fragment.Piece.TheVariants.{Text, Hole}
use Rattle.rl_syntax.specs.declared.identifier.PatternVariable.{PatternVariable}
use Rattle.rl_syntax.specs.declared.pattern.Pattern.{Pattern}
use Rattle.rl_syntax.specs.declared.pattern.Pattern.TheOpen as p
use Rattle.rl_syntax.specs.declared.pattern.Pattern.TheFolds.{fold-Pattern, fold-PatternElement}
use Rattle.rl_syntax.specs.declared.pattern.PatternElement.{PatternElement}

-- a test sets nothing
abbrev pub set_by : PatternVariable → List ℕ
set_by variable = cond variable.is_test [] (variable.number ∷ [])

-- the holes in text order
abbrev pub set_in_holes : List Piece → List ℕ
set_in_holes [] = []
set_in_holes (Text text ∷ pieces) = set_in_holes pieces
set_in_holes (Hole sort variable ∷ pieces) = set_by variable ++ set_in_holes pieces

-- what a pattern sets, from what the patterns in it set; a negation sets nothing outside
abbrev pub set_by_form : p.Pattern-F (List ℕ) (List ℕ) → List ℕ
set_by_form (p.TypedBinding place ty variable pattern) = set_by variable ++ pattern
set_by_form (p.Binding place variable pattern) = set_by variable ++ pattern
set_by_form (p.Negation place pattern) = []
set_by_form (p.Descendant place pattern) = pattern
set_by_form (p.Fragment place fragment) = set_in_holes fragment.pieces
set_by_form (p.Constructor place name parts) = concat parts
set_by_form (p.TypedVariable place ty variable) = set_by variable
set_by_form (p.TypedWildcard place ty) = []
set_by_form (p.List place elements) = concat elements
set_by_form (p.Set place elements) = concat elements
set_by_form (p.Tuple place parts) = concat parts
set_by_form (p.Integer place number) = []
set_by_form (p.Text place text) = []
set_by_form (p.Location place path) = []
set_by_form (p.Truth place truth) = []
set_by_form (p.Wildcard place) = []
set_by_form (p.Variable place variable) = set_by variable

abbrev pub set_by_element : p.PatternElement-F (List ℕ) (List ℕ) → List ℕ
set_by_element (p.AnyRest place) = []
set_by_element (p.TypedRest place ty variable) = set_by variable
set_by_element (p.Rest place variable) = set_by variable
set_by_element (p.Single pattern) = pattern

-- the numbers of the variables that a pattern sets, in text order
abbrev pub bound : Pattern → List ℕ
bound = fold-Pattern (List ℕ) (List ℕ) set_by_form set_by_element

abbrev pub bound_in_element : PatternElement → List ℕ
bound_in_element = fold-PatternElement (List ℕ) (List ℕ) set_by_form set_by_element

-- the same of several, in turn
abbrev pub bound_in_all : List Pattern → List ℕ
bound_in_all patterns = concat (map bound patterns)

abbrev pub bound_in_elements : List PatternElement → List ℕ
bound_in_elements elements = concat (map bound_in_element elements)
