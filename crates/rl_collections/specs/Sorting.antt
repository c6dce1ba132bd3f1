-- sort.
use Rattle.std.specs.Prelude.{List, [], ◌∷◌, Option, Some, None, if◌then◌else◌}
use Rattle.std.specs.Ordering.{is_gt}
use Rattle.rl_value.specs.Plain.{Plain, list, set, items_of}
use Rattle.rl_value.specs.Order.{plain_cmp}
use Rattle.rl_exception.specs.Answer.{Answer, fitting}
use Rattle.rl_arguments.specs.Arguments.{taking, list_of}

-- the elements of a list or a set
abbrev pub elements_in : Plain → Option (List Plain)
elements_in (list ts) = Some (items_of ts)
elements_in (set ts) = Some (items_of ts)
elements_in t = None

-- t put in front of the first that is not below it
abbrev pub placed : Plain → List Plain → List Plain
placed t [] = t ∷ []
placed t (u ∷ us) = if is_gt (plain_cmp t u) then u ∷ placed t us else t ∷ u ∷ us

-- the elements in the order of values
abbrev pub sorted : List Plain → List Plain
sorted [] = []
sorted (t ∷ ts) = placed t (sorted ts)

abbrev pub sort_of : Plain → Answer
sort_of t = taking (elements_in t) (λ ts. fitting (list_of (sorted ts)))
