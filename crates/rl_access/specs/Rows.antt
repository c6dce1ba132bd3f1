-- The rows of a relation: tuples of two parts or more.
use Rattle.std.specs.Prelude.{Bool, true, false, List, filter, map}
use Rattle.rl_value.specs.Plain.{Plain, tuple, nil, cons}
use Rattle.std.specs.Ordering.{is_lt}
use Rattle.rl_value.specs.Order.{plain_cmp}
use Rattle.rl_value.specs.Laws.{plain_eq}

-- whether a value is a tuple of two parts or more
abbrev pub is_row : Plain → Bool
is_row (tuple (cons x (cons y ys))) = true
is_row t = false

-- whether a value is a tuple whose first part is k
abbrev pub begins_with : Plain → Plain → Bool
begins_with k (tuple (cons x ys)) = plain_eq x k
begins_with k t = false

-- what stands behind the first part: of a pair the other part itself
abbrev pub rest_of : Plain → Plain
rest_of (tuple (cons x (cons y nil))) = y
rest_of (tuple (cons x ys)) = tuple ys
rest_of t = t

-- the rests of the rows that begin with k
abbrev pub rests : Plain → List Plain → List Plain
rests k ts = map rest_of (filter (begins_with k) ts)

-- whether a row begins with something below k
abbrev pub is_below : Plain → Plain → Bool
is_below k (tuple (cons x ys)) = is_lt (plain_cmp x k)
is_below k t = false
