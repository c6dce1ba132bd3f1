-- The place of a pattern.
use Rattle.rl_base.specs.declared.place.Place.{Place}
use Rattle.rl_syntax.specs.declared.pattern.Pattern.{Pattern, Pattern-F, out-Pattern}
use Rattle.rl_syntax.specs.declared.pattern.Pattern.TheOpen as p

abbrev place_in : {A B : Type 0} → Pattern-F A B → Place
place_in (p.TypedBinding place _ _ _) = place
place_in (p.Binding place _ _) = place
place_in (p.Negation place _) = place
place_in (p.Descendant place _) = place
place_in (p.Fragment place _) = place
place_in (p.Constructor place _ _) = place
place_in (p.TypedVariable place _ _) = place
place_in (p.TypedWildcard place _) = place
place_in (p.List place _) = place
place_in (p.Set place _) = place
place_in (p.Tuple place _) = place
place_in (p.Integer place _) = place
place_in (p.Text place _) = place
place_in (p.Location place _) = place
place_in (p.Truth place _) = place
place_in (p.Wildcard place) = place
place_in (p.Variable place _) = place

abbrev pub place_of_pattern : Pattern → Place
place_of_pattern pattern = place_in (out-Pattern pattern)
