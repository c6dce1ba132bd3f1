-- Patterns among the parts of a phrase.
use Rattle.std.specs.Prelude.{Option, Some, None}
use Rattle.std.specs.Option.{option_map}
use Rattle.rl_syntax.specs.declared.fragment.Concrete.{Concrete}
use Rattle.rl_syntax.specs.declared.pattern.Pattern.{Pattern}
use Rattle.rl_syntax.specs.declared.pattern.Pattern.TheVariants as p
use Rattle.rl_syntax.specs.declared.pattern.PatternElement.{PatternElement}
use Rattle.rl_syntax.specs.declared.pattern.PatternElement.TheVariants as e
use Rattle.rl_forms.specs.declared.form.Form.{Form}
use Rattle.rl_forms.specs.declared.form.Form.TheVariants as f
use Rattle.rl_forms.specs.Part.{or_else}

abbrev pub fragment_pattern : Concrete → Pattern
fragment_pattern fragment = p.Fragment fragment.place fragment

-- a fragment is a pattern
abbrev pub as_pattern : Form → Option Pattern
as_pattern (f.Pattern pattern) = Some pattern
as_pattern (f.Fragment fragment) = Some (fragment_pattern fragment)
as_pattern _ = None

abbrev pub own_element : Form → Option PatternElement
own_element (f.PatternElement element) = Some element
own_element _ = None

-- a pattern is one element
abbrev pub as_element : Form → Option PatternElement
as_element part = or_else (own_element part) (option_map e.Single (as_pattern part))
