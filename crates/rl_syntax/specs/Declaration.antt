-- The place of a declaration.
use Rattle.rl_base.specs.declared.place.Place.{Place}
use Rattle.rl_syntax.specs.declared.declaration.Decl.{Decl}
use Rattle.rl_syntax.specs.declared.declaration.Decl.TheVariants as d

abbrev pub place_of_declaration : Decl → Place
place_of_declaration (d.Import place _) = place
place_of_declaration (d.Extend place _) = place
place_of_declaration (d.Syntax definition) = definition.place
place_of_declaration (d.Data place _ _) = place
place_of_declaration (d.Global place _ _ _ _) = place
place_of_declaration (d.Function function) = function.place
