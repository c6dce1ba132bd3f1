-- What a value becomes by an assignment to one of its parts.
use Rattle.std.specs.Prelude.{ℕ, ℤ, nat_lt, List, length, slice_set, Option, Some, None, if◌then◌else◌}
use Rattle.std.specs.BTreeMap.{insert_entry}
use Rattle.rl_value.specs.Plain.{Plain, Plains, tuple, list, mapping, node, plains_of, items_of, pairs_of, entries_of}
use Rattle.rl_value.specs.Readers.{as_int}
use Rattle.rl_value.specs.Order.{plain_cmp}
use Rattle.rl_exception.specs.Answer.{Answer, Throws, throwing, fitting}
use Rattle.rl_exception.specs.Exceptions.{wrong_kind, no_such_field}
use Rattle.rl_access.specs.Operands.{of_int, of_place, place_of}

-- with v in place of the element that i names
abbrev pub replaced : (Plains → Plain) → List Plain → Plain → ℤ → Answer
replaced made ts v i = of_place i (place_of (length ts) i) (λ place. fitting (made (plains_of (slice_set ts place v))))

-- a list, a tuple or a map after `a[i] = v`; a key that was not there is put in
abbrev pub with_subscript_of : Plain → Plain → Plain → Answer
with_subscript_of (list ts) i v = of_int (as_int i) (replaced list (items_of ts) v)
with_subscript_of (tuple ts) i v = of_int (as_int i) (replaced tuple (items_of ts) v)
with_subscript_of (mapping ps) k v = fitting (mapping (pairs_of (insert_entry plain_cmp (entries_of ps) k v)))
with_subscript_of a i v = Throws wrong_kind

-- with v in the field of this name, which stands at the place
abbrev pub with_field_at : List ℕ → List Plain → List ℕ → Plain → Option ℕ → Answer
with_field_at constructor ts name v None = throwing (no_such_field name)
with_field_at constructor ts name v (Some place) =
    if nat_lt place (length ts) then fitting (node constructor (plains_of (slice_set ts place v))) else throwing (no_such_field name)

-- a constructor after `a.f = v`
abbrev pub with_field_of : Plain → List ℕ → Option ℕ → Plain → Answer
with_field_of (node constructor ts) name place v = with_field_at constructor (items_of ts) name v place
with_field_of a name place v = Throws wrong_kind
