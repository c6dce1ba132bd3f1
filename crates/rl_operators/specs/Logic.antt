-- Truth values. `||` and `==>` look at the right operand only where it is needed.
use Rattle.std.specs.Prelude.{true, false, not}
use Rattle.rl_value.specs.Plain.{Plain, bool}
use Rattle.rl_exception.specs.Answer.{Answer, Gives, Throws}
use Rattle.rl_exception.specs.Exceptions.{wrong_kind}

abbrev pub or_of : Plain → Plain → Answer
or_of (bool true) b = Gives (bool true)
or_of (bool false) (bool q) = Gives (bool q)
or_of a b = Throws wrong_kind

abbrev pub implies_of : Plain → Plain → Answer
implies_of (bool false) b = Gives (bool true)
implies_of (bool true) (bool q) = Gives (bool q)
implies_of a b = Throws wrong_kind

abbrev pub equivalent_of : Plain → Plain → Answer
equivalent_of (bool true) (bool q) = Gives (bool q)
equivalent_of (bool false) (bool q) = Gives (bool (not q))
equivalent_of a b = Throws wrong_kind

abbrev pub not_of : Plain → Answer
not_of (bool p) = Gives (bool (not p))
not_of a = Throws wrong_kind
