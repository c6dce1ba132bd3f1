-- What `a.f` gives, where f is the name of the field that stands at a place, if there is one.
use Rattle.std.specs.Prelude.{ℕ, List, slice_get, Option}
use Rattle.std.specs.Option.{option_and_then}
use Rattle.rl_value.specs.Plain.{Plain, node, items_of}
use Rattle.rl_exception.specs.Answer.{Answer, Throws, throwing}
use Rattle.rl_exception.specs.Exceptions.{wrong_kind, no_such_field}
use Rattle.rl_access.specs.Operands.{found_or}

abbrev pub field_of : Plain → List ℕ → Option ℕ → Answer
field_of (node constructor ts) name place = found_or (throwing (no_such_field name)) (option_and_then (slice_get (items_of ts)) place)
field_of a name place = Throws wrong_kind
