-- When a pattern may be matched: its variables, its tests and its fragments.
use Rattle.std.specs.Prelude.{◌≡◌, ℕ, nat_eq, Bool, true, false, not, ◌&&◌, ◌||◌, cond, List, [], ◌∷◌, ◌++◌, map, filter}
use Rattle.std.specs.List.{list_any, list_all, slice_get}
use Rattle.std.specs.Option.{option_map_or}
use Rattle.std.specs.Cmp.Lexicographic.{pointwise}
use Rattle.std.specs.Str.{bytes_eq}
use Rattle.rl_syntax.specs.declared.fragment.Concrete.{Concrete}
use Rattle.rl_syntax.specs.declared.fragment.Piece.{Piece}
use Rattle.rl_syntax.specs.declared.fragment.Piece.TheVariants.{Text, Hole}
use Rattle.rl_syntax.specs.declared.identifier.PatternVariable.{PatternVariable}
use Rattle.rl_syntax.specs.declared.pattern.Pattern.{Pattern}
use Rattle.rl_syntax.specs.declared.pattern.Pattern.TheOpen as p
use Rattle.rl_syntax.specs.declared.pattern.Pattern.TheFolds.{fold-Pattern}

-- the holes of a fragment of the program
pub record FragmentHoles : Type 0 where
  -- their sorts in text order
  pub sorts : List (List ℕ)
  -- whether one stands inside layout
  pub in_layout : Bool

-- what a pattern does with variables, and the fragments in it, from the left
pub record Uses : Type 0 where
  pub variables : List PatternVariable
  -- the numbers of the variables that it sets for what follows
  pub sets : List ℕ
  -- the numbers of the tests that it has not set further left
  pub asks : List ℕ
  pub fragments : List Concrete

abbrev pub has_number : List ℕ → ℕ → Bool
has_number numbers n = list_any (nat_eq n) numbers

abbrev pub no_uses : Uses
no_uses = record { variables = []; sets = []; asks = []; fragments = [] }

abbrev pub of_variable : PatternVariable → Uses
of_variable x = record {
  variables = x ∷ [];
  sets = cond x.is_test [] (x.number ∷ []);
  asks = cond x.is_test (x.number ∷ []) [];
  fragments = [];
}

-- of one, and of another to its right
abbrev pub of_both : Uses → Uses → Uses
of_both a b = record {
  variables = a.variables ++ b.variables;
  sets = a.sets ++ b.sets;
  asks = a.asks ++ filter (λ n. not (has_number a.sets n)) b.asks;
  fragments = a.fragments ++ b.fragments;
}

abbrev pub of_all : List Uses → Uses
of_all [] = no_uses
of_all (a ∷ rest) = of_both a (of_all rest)

-- what a negation sets ends with it
abbrev pub of_negation : Uses → Uses
of_negation a = record { variables = a.variables; sets = []; asks = a.asks; fragments = a.fragments }

abbrev pub of_holes : List Piece → Uses
of_holes [] = no_uses
of_holes (Text text ∷ pieces) = of_holes pieces
of_holes (Hole sort x ∷ pieces) = of_both (of_variable x) (of_holes pieces)

abbrev pub of_fragment : Concrete → Uses
of_fragment fragment = of_both (record { variables = []; sets = []; asks = []; fragments = fragment ∷ [] }) (of_holes fragment.pieces)

-- an element of a list pattern or a set pattern
pub record ElementUses : Type 0 where
  -- of a star
  pub star : Uses
  -- of a pattern
  pub single : Uses

abbrev pub of_element : ElementUses → Uses
of_element e = of_both e.single e.star

-- the patterns among the elements of a set pattern are served first, and then the stars
abbrev pub of_set : List ElementUses → Uses
of_set elements = of_both (of_all (map (λ e. e.single) elements)) (of_all (map (λ e. e.star) elements))

abbrev pub in_element : p.PatternElement-F Uses ElementUses → ElementUses
in_element (p.AnyRest place) = record { star = no_uses; single = no_uses }
in_element (p.TypedRest place ty x) = record { star = of_variable x; single = no_uses }
in_element (p.Rest place x) = record { star = of_variable x; single = no_uses }
in_element (p.Single inner) = record { star = no_uses; single = inner }

abbrev pub in_form : p.Pattern-F Uses ElementUses → Uses
in_form (p.TypedBinding place ty x inner) = of_both (of_variable x) inner
in_form (p.Binding place x inner) = of_both (of_variable x) inner
in_form (p.Negation place inner) = of_negation inner
in_form (p.Descendant place inner) = inner
in_form (p.Fragment place fragment) = of_fragment fragment
in_form (p.Constructor place name parts) = of_all parts
in_form (p.TypedVariable place ty x) = of_variable x
in_form (p.TypedWildcard place ty) = no_uses
in_form (p.List place elements) = of_all (map of_element elements)
in_form (p.Set place elements) = of_set elements
in_form (p.Tuple place parts) = of_all parts
in_form (p.Integer place number) = no_uses
in_form (p.Text place text) = no_uses
in_form (p.Location place path) = no_uses
in_form (p.Truth place truth) = no_uses
in_form (p.Wildcard place) = no_uses
in_form (p.Variable place x) = of_variable x

abbrev pub uses : Pattern → Uses
uses = fold-Pattern Uses ElementUses in_form in_element

-- a variable that is no test has a number that none further left has; met are the numbers further left
abbrev pub are_fresh : (met : List ℕ) → List PatternVariable → Bool
are_fresh met [] = true
are_fresh met (x ∷ xs) = (x.is_test || not (has_number met x.number)) && are_fresh (x.number ∷ met) xs

-- no number stands twice
abbrev pub differ : List ℕ → Bool
differ [] = true
differ (n ∷ ns) = not (has_number ns n) && differ ns

abbrev pub hole_sorts : List Piece → List (List ℕ)
hole_sorts [] = []
hole_sorts (Text text ∷ pieces) = hole_sorts pieces
hole_sorts (Hole sort x ∷ pieces) = sort ∷ hole_sorts pieces

-- the fragment at its number has the same holes, and none inside layout
abbrev pub has_its_holes : List FragmentHoles → Concrete → Bool
has_its_holes fragments fragment =
    option_map_or (λ holes. not holes.in_layout && pointwise bytes_eq holes.sorts (hole_sorts fragment.pieces)) (slice_get fragments fragment.number) false

-- a test, or none of these
abbrev pub is_apart : List ℕ → PatternVariable → Bool
is_apart numbers x = x.is_test || not (has_number numbers x.number)

-- A pattern may be matched where the variables with these numbers have values from outside, in a program with these fragments.
pub record MayStart (pattern : Pattern) (outside : List ℕ) (fragments : List FragmentHoles) : Type 0 where
  pub fresh : are_fresh [] (uses pattern).variables ≡ true
  -- each test that the pattern has not set further left has a value from outside
  pub tested : list_all (has_number outside) (uses pattern).asks ≡ true
  pub holes : list_all (has_its_holes fragments) (uses pattern).fragments ≡ true
  pub distinct : differ outside ≡ true
  pub apart : list_all (is_apart outside) (uses pattern).variables ≡ true

-- the same as one test
abbrev pub may_start : Pattern → List ℕ → List FragmentHoles → Bool
may_start pattern outside fragments =
    are_fresh [] (uses pattern).variables
    && list_all (has_number outside) (uses pattern).asks
    && list_all (has_its_holes fragments) (uses pattern).fragments
    && differ outside
    && list_all (is_apart outside) (uses pattern).variables
