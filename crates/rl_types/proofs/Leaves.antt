-- Types without parts.
use Rattle.std.proofs.Common.{◌≡◌}
use Rattle.rl_base.specs.declared.place.Place.{Place}
use Rattle.rl_syntax.specs.declared.ty.Ty.{Ty, out-Ty}
use Rattle.rl_syntax.specs.declared.ty.Ty.TheFolds.{fold_out-Ty}
use Rattle.rl_syntax.specs.declared.ty.Ty.TheVariants.{Bool, Int, Str, Loc, Value}
use denote.Hole.Carrier.{out}
use Rattle.rl_types.specs.PlainType.{PlainType, bool, int, str, loc, value, plain_of_form, plain_of_field, plain_type}

pub plain_type-bool : (place : Place) → plain_type (Bool place) ≡ bool
unfolding out-Ty out
plain_type-bool place = fold_out-Ty PlainType PlainType plain_of_form plain_of_field (Bool place)

pub plain_type-int : (place : Place) → plain_type (Int place) ≡ int
unfolding out-Ty out
plain_type-int place = fold_out-Ty PlainType PlainType plain_of_form plain_of_field (Int place)

pub plain_type-str : (place : Place) → plain_type (Str place) ≡ str
unfolding out-Ty out
plain_type-str place = fold_out-Ty PlainType PlainType plain_of_form plain_of_field (Str place)

pub plain_type-loc : (place : Place) → plain_type (Loc place) ≡ loc
unfolding out-Ty out
plain_type-loc place = fold_out-Ty PlainType PlainType plain_of_form plain_of_field (Loc place)

pub plain_type-value : (place : Place) → plain_type (Value place) ≡ value
unfolding out-Ty out
plain_type-value place = fold_out-Ty PlainType PlainType plain_of_form plain_of_field (Value place)
