-- max and min.
use Rattle.std.specs.Prelude.{List, [], ◌∷◌, Option, Some, None, fold, if◌then◌else◌}
use Rattle.std.specs.Ordering.{is_gt, is_lt}
use Rattle.rl_value.specs.Plain.{Plain, list, set, items_of}
use Rattle.rl_value.specs.Order.{plain_cmp}
use Rattle.rl_exception.specs.Answer.{Answer, Throws}
use Rattle.rl_exception.specs.Exceptions.{empty_list, empty_set, wrong_kind}
use Rattle.rl_arguments.specs.Arguments.{given_or}

abbrev pub larger : Plain → Plain → Plain
larger a b = if is_gt (plain_cmp b a) then b else a

abbrev pub smaller : Plain → Plain → Plain
smaller a b = if is_lt (plain_cmp b a) then b else a

abbrev pub greatest : List Plain → Option Plain
greatest [] = None
greatest (t ∷ ts) = Some (fold larger t ts)

abbrev pub least : List Plain → Option Plain
least [] = None
least (t ∷ ts) = Some (fold smaller t ts)

abbrev pub max_of : Plain → Answer
max_of (list ts) = given_or empty_list (greatest (items_of ts))
max_of (set ts) = given_or empty_set (greatest (items_of ts))
max_of t = Throws wrong_kind

abbrev pub min_of : Plain → Answer
min_of (list ts) = given_or empty_list (least (items_of ts))
min_of (set ts) = given_or empty_set (least (items_of ts))
min_of t = Throws wrong_kind
