-- What is in a collection, and what has a name.
use Rattle.std.specs.Prelude.{not}
use Rattle.std.specs.Str.{bytes_eq}
use Rattle.rl_value.specs.Plain.{Plain, bool, text, list, set, mapping, node, tree, items_of}
use Rattle.rl_exception.specs.Answer.{Answer, Gives, Throws}
use Rattle.rl_exception.specs.Exceptions.{wrong_kind}
use Rattle.rl_operators.specs.Sets.{is_member}
use Rattle.rl_operators.specs.Maps.{keys_of}

-- an element, or a key
abbrev pub in_of : Plain → Plain → Answer
in_of x (list ts) = Gives (bool (is_member (items_of ts) x))
in_of x (set ts) = Gives (bool (is_member (items_of ts) x))
in_of x (mapping ps) = Gives (bool (is_member (keys_of ps) x))
in_of x t = Throws wrong_kind

abbrev pub not_in_of : Plain → Plain → Answer
not_in_of x (list ts) = Gives (bool (not (is_member (items_of ts) x)))
not_in_of x (set ts) = Gives (bool (not (is_member (items_of ts) x)))
not_in_of x (mapping ps) = Gives (bool (not (is_member (keys_of ps) x)))
not_in_of x t = Throws wrong_kind

-- a constructor by its name, a tree by its label
abbrev pub is_of : Plain → Plain → Answer
is_of (node name ts) (text word) = Gives (bool (bytes_eq name word))
is_of (tree shape ts) (text word) = Gives (bool (bytes_eq shape.label word))
is_of a b = Throws wrong_kind
