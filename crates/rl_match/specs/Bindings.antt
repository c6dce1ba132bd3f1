-- The bindings of a pattern on a value, as whole lists.
use Rattle.std.specs.Prelude.{ℕ, nat_eq, if◌then◌else◌, Bool, List, [], ◌∷◌, ◌++◌, length, map, flat_map, Option, Some, None}
use Rattle.std.specs.List.{list_all}
use Rattle.rl_value.specs.Plain.{Plain, bool, int, text, location, tuple, list, set, node, plains_of, items_of}
use Rattle.rl_value.specs.declared.shape.Scheme.TheVariants.{Cwd, Unknown}
use Rattle.rl_value.specs.Laws.{plain_eq}
use Rattle.std.specs.Prelude.{bytes_eq}
use Rattle.rl_setmatch.specs.Divisions.{divisions}
use Rattle.rl_syntax.specs.declared.fragment.Concrete.{Concrete}
use Rattle.rl_syntax.specs.declared.identifier.PatternVariable.{PatternVariable}
use Rattle.rl_syntax.specs.declared.ty.Ty.{Ty}
use Rattle.rl_syntax.specs.declared.pattern.Pattern.{Pattern}
use Rattle.rl_syntax.specs.declared.pattern.Pattern.TheOpen as p
use Rattle.rl_syntax.specs.declared.pattern.PatternElement.{PatternElement}
use Rattle.rl_match.specs.Below.{below}
use Rattle.rl_match.specs.Folds.{fold_within, of_element, levels}

-- the variables that were bound, by their numbers, in the order in which they were
abbrev pub Binding : Type 0
Binding = List (ℕ × Plain)

-- what a pattern does: to a value and what was bound so far, the bindings that go on from it
abbrev pub Matching : Type 0
Matching = Plain → Binding → List Binding

-- what patterns look at outside of themselves and of values
pub record Context : Type 0 where
  -- whether a value has a type
  pub has : Plain → Ty → Bool
  -- the variables from outside that patterns may test
  pub outside : Binding
  -- how a fragment of concrete syntax matches; its own definition stands with those of trees
  pub on_fragment : Concrete → Matching

abbrev pub value_in : ℕ → Binding → Option Plain
value_in x [] = None
value_in x ((y, v) ∷ b) = if nat_eq x y then Some v else value_in x b

abbrev pub where_true : Bool → Binding → List Binding
where_true holds b = if holds then b ∷ [] else []

-- where the variable's value is this one
abbrev pub where_same : Option Plain → Plain → Binding → List Binding
where_same None v b = []
where_same (Some u) v b = where_true (plain_eq u v) b

abbrev pub set_to : ℕ → Matching
set_to x v b = (b ++ (x, v) ∷ []) ∷ []

-- a test asks for the value that the variable has, bound further left or outside; another variable is new, and is set
abbrev pub on_variable : Context → PatternVariable → Matching
on_variable c x v b = if x.is_test then where_same (value_in x.number (b ++ c.outside)) v b else set_to x.number v b

abbrev pub on_type : Context → Ty → Matching → Matching
on_type c ty m v b = if c.has v ty then m v b else []

abbrev pub on_literal : Plain → Matching
on_literal literal v b = where_true (plain_eq literal v) b

-- where the first has a binding, the second goes on from it, on the same value
abbrev pub on_both : Matching → Matching → Matching
on_both first second v b = flat_map (second v) (first v b)

abbrev pub where_none : List Binding → Binding → List Binding
where_none [] b = b ∷ []
where_none (c ∷ cs) b = []

-- one matching for each value, from the left, each from the bindings of those before it
abbrev pub join : List Matching → List Plain → Binding → List Binding
join [] [] b = b ∷ []
join [] (v ∷ vs) b = []
join (m ∷ ms) [] b = []
join (m ∷ ms) (v ∷ vs) b = flat_map (join ms vs) (m v b)

-- an element of a list or set pattern: for one value, or a star for a part, which is a list or a set
pub data Element : Type 0 where
  one : Matching → Element
  star : Matching → Element

-- a star on the first k elements, for each k from 0 up, and then the rest on the others
abbrev pub on_star : Matching → (List Plain → Binding → List Binding) → List Plain → List Plain → Binding → List Binding
on_star m rest taken [] b = flat_map (rest []) (m (list (plains_of taken)) b)
on_star m rest taken (v ∷ vs) b =
    flat_map (rest (v ∷ vs)) (m (list (plains_of taken)) b) ++ on_star m rest (taken ++ v ∷ []) vs b

-- the elements of a list pattern on the elements of a list
abbrev pub on_list : List Element → List Plain → Binding → List Binding
on_list [] [] b = b ∷ []
on_list [] (v ∷ vs) b = []
on_list (one m ∷ es) [] b = []
on_list (one m ∷ es) (v ∷ vs) b = flat_map (on_list es vs) (m v b)
on_list (star m ∷ es) vs b = on_star m (on_list es) [] vs b

-- one matching over the elements, rising, and then the rest on the others; `passed` stand before vs
abbrev pub on_one_of : Matching → (List Plain → Binding → List Binding) → List Plain → List Plain → Binding → List Binding
on_one_of m rest passed [] b = []
on_one_of m rest passed (v ∷ vs) b = flat_map (rest (passed ++ vs)) (m v b) ++ on_one_of m rest (passed ++ v ∷ []) vs b

abbrev pub ones_in : List Element → List Matching
ones_in [] = []
ones_in (one m ∷ es) = m ∷ ones_in es
ones_in (star m ∷ es) = ones_in es

abbrev pub stars_in : List Element → List Matching
stars_in [] = []
stars_in (one m ∷ es) = stars_in es
stars_in (star m ∷ es) = m ∷ stars_in es

-- the stars on each division of the elements that are left, from the left
abbrev pub on_divisions : List Matching → List Plain → Binding → List Binding
on_divisions stars vs b = flat_map (λ division. join stars (map (λ part. set (plains_of part)) division) b) (divisions vs (length stars))

-- first the patterns for one element, in text order, and then the stars
abbrev pub on_set : List Matching → List Matching → List Plain → Binding → List Binding
on_set [] stars vs b = on_divisions stars vs b
on_set (m ∷ ms) stars vs b = on_one_of m (on_set ms stars) [] vs b

abbrev pub on_list_value : List Element → Matching
on_list_value es (list vs) b = on_list es (items_of vs) b
on_list_value es v b = []

abbrev pub on_set_value : List Element → Matching
on_set_value es (set vs) b = on_set (ones_in es) (stars_in es) (items_of vs) b
on_set_value es v b = []

abbrev pub on_tuple : List Matching → Matching
on_tuple ms (tuple vs) b = join ms (items_of vs) b
on_tuple ms v b = []

abbrev pub on_constructor : List ℕ → List Matching → Matching
on_constructor name ms (node constructor vs) b = if bytes_eq name constructor then join ms (items_of vs) b else []
on_constructor name ms v b = []

-- the elements of a part that a star takes
abbrev pub part_elements : Plain → List Plain
part_elements (list vs) = items_of vs
part_elements (set vs) = items_of vs
part_elements v = []

abbrev pub on_elements_of_type : Context → Ty → Matching → Matching
on_elements_of_type c ty m v b = if list_all (λ u. c.has u ty) (part_elements v) then m v b else []

-- `|cwd:///path|`, and `|unknown:///|` where there is no path
abbrev pub location_of_literal : Option (List ℕ) → Plain
location_of_literal None = location Unknown [] None
location_of_literal (Some path) = location Cwd path None

abbrev pub on_form : Context → p.Pattern-F Matching Element → Matching
on_form c (p.TypedBinding place ty x m) = on_type c ty (on_both (on_variable c x) m)
on_form c (p.Binding place x m) = on_both (on_variable c x) m
on_form c (p.Negation place m) = λ v b. where_none (m v b) b
on_form c (p.Descendant place m) = λ v b. flat_map (λ u. m u b) (below v)
on_form c (p.Fragment place fragment) = c.on_fragment fragment
on_form c (p.Constructor place name ms) = on_constructor name.name ms
on_form c (p.TypedVariable place ty x) = on_type c ty (on_variable c x)
on_form c (p.TypedWildcard place ty) = on_type c ty (λ v b. b ∷ [])
on_form c (p.List place es) = on_list_value es
on_form c (p.Set place es) = on_set_value es
on_form c (p.Tuple place ms) = on_tuple ms
on_form c (p.Integer place n) = on_literal (int n)
on_form c (p.Text place bytes) = on_literal (text bytes)
on_form c (p.Location place path) = on_literal (location_of_literal path)
on_form c (p.Truth place b) = on_literal (bool b)
on_form c (p.Wildcard place) = λ v b. b ∷ []
on_form c (p.Variable place x) = on_variable c x

abbrev pub on_element : Context → p.PatternElement-F Matching Element → Element
on_element c (p.AnyRest place) = star (λ v b. b ∷ [])
on_element c (p.TypedRest place ty x) = star (on_elements_of_type c ty (on_variable c x))
on_element c (p.Rest place x) = star (on_variable c x)
on_element c (p.Single m) = one m

-- the bindings of a pattern on a value, each of which goes on from b
unfoldable pub bindings : Context → Pattern → Matching
bindings c = fold_within levels (on_form c) (on_element c)

-- what an element of a list or set pattern is
unfoldable pub element : Context → PatternElement → Element
element c = of_element (on_element c) (bindings c)

-- those of several patterns on as many values
abbrev pub joined_bindings : Context → List Pattern → List Plain → Binding → List Binding
joined_bindings c patterns = join (map (bindings c) patterns)
