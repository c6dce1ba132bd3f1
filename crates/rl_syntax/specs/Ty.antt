-- The place of a type.
use Rattle.rl_base.specs.declared.place.Place.{Place}
use Rattle.rl_syntax.specs.declared.ty.Ty.{Ty, Ty-F, out-Ty}
use Rattle.rl_syntax.specs.declared.ty.Ty.TheOpen as t

abbrev place_in : {A B : Type 0} → Ty-F A B → Place
place_in (t.List place _) = place
place_in (t.Set place _) = place
place_in (t.Map place _ _) = place
place_in (t.Tuple place _) = place
place_in (t.Relation place _) = place
place_in (t.ListRelation place _) = place
place_in (t.Bool place) = place
place_in (t.Int place) = place
place_in (t.Str place) = place
place_in (t.Loc place) = place
place_in (t.Void place) = place
place_in (t.Value place) = place
place_in (t.Named place _) = place

abbrev pub place_of_ty : Ty → Place
place_of_ty ty = place_in (out-Ty ty)
