-- Folds over patterns that compute.
use Rattle.std.specs.Prelude.{ℕ, zero, suc, map}
use Rattle.rl_syntax.specs.declared.pattern.Pattern.{Pattern, out-Pattern}
use Rattle.rl_syntax.specs.declared.pattern.Pattern.TheOpen as p
use Rattle.rl_syntax.specs.declared.pattern.PatternElement.{PatternElement, out-PatternElement}
use Rattle.rl_syntax.specs.declared.pattern.Pattern.TheFolds.{fold-Pattern}

-- a form of pattern, with what was made of the patterns and elements in it
abbrev pub form_of : {M E : Type 0} → (Pattern → M) → (PatternElement → E) → p.Pattern-F Pattern PatternElement → p.Pattern-F M E
form_of f g (p.TypedBinding place ty x q) = p.TypedBinding place ty x (f q)
form_of f g (p.Binding place x q) = p.Binding place x (f q)
form_of f g (p.Negation place q) = p.Negation place (f q)
form_of f g (p.Descendant place q) = p.Descendant place (f q)
form_of f g (p.Fragment place fragment) = p.Fragment place fragment
form_of f g (p.Constructor place name qs) = p.Constructor place name (map f qs)
form_of f g (p.TypedVariable place ty x) = p.TypedVariable place ty x
form_of f g (p.TypedWildcard place ty) = p.TypedWildcard place ty
form_of f g (p.List place es) = p.List place (map g es)
form_of f g (p.Set place es) = p.Set place (map g es)
form_of f g (p.Tuple place qs) = p.Tuple place (map f qs)
form_of f g (p.Integer place n) = p.Integer place n
form_of f g (p.Text place bytes) = p.Text place bytes
form_of f g (p.Location place path) = p.Location place path
form_of f g (p.Truth place b) = p.Truth place b
form_of f g (p.Wildcard place) = p.Wildcard place
form_of f g (p.Variable place x) = p.Variable place x

-- an element, with what was made of the pattern in it
abbrev pub element_of : {M E : Type 0} → (Pattern → M) → p.PatternElement-F Pattern PatternElement → p.PatternElement-F M E
element_of f (p.AnyRest place) = p.AnyRest place
element_of f (p.TypedRest place ty x) = p.TypedRest place ty x
element_of f (p.Rest place x) = p.Rest place x
element_of f (p.Single q) = p.Single (f q)

-- what is made of an element, by what is made of patterns
abbrev pub of_element : {M E : Type 0} → (p.PatternElement-F M E → E) → (Pattern → M) → PatternElement → E
of_element step f e = step (element_of f (out-PatternElement e))

-- A fold over a pattern, by the steps for a form and for an element. It is opened through so many levels, and goes on below them as the fold of the type does. So the number makes no difference but to what computes.
unfoldable pub fold_within : {M E : Type 0} → ℕ → (p.Pattern-F M E → M) → (p.PatternElement-F M E → E) → Pattern → M
fold_within {M} {E} zero step element_step q = fold-Pattern M E step element_step q
fold_within {M} {E} (suc n) step element_step q = step (form_of (fold_within n step element_step) (of_element element_step (fold_within n step element_step)) (out-Pattern q))

-- as many levels as small patterns have
abbrev pub levels : ℕ
levels = 10
