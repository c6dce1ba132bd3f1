-- How many entries a map has.
use Rattle.std.proofs.Common.{◌≡◌, ℕ, List, [], ◌∷◌, length, map, Option, Some, refl, ap, ◌∙◌, arith}
use Rattle.rl_value.specs.Plain.{Plain, mapping, pairs_of, entries_of}
use Rattle.rl_value.specs.View.{pair_of}
use Rattle.rl_value.specs.declared.value.Entry.{Entry}
use Rattle.rl_collections.specs.Sizes.{count_in}

counted : (es : List Entry) → length es ≡ length (entries_of (pairs_of (map pair_of es)))
counted [] = refl
counted (e ∷ es) = omega (arith, counted es)

pub entry_count : (t : Plain) (es : List Entry) → mapping (pairs_of (map pair_of es)) ≡ t → Some (length es) ≡ count_in t
entry_count t es e = ap Some (counted es) ∙ ap count_in e
