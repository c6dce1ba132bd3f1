-- The exceptions that the language itself throws, as values.
use Rattle.std.specs.Prelude.{ℕ, ℤ, List, [], ◌∷◌, codes}
use Rattle.rl_value.specs.Plain.{Plain, int, text, node, plains_of}

abbrev pub arithmetic_exception : List ℕ → Plain
arithmetic_exception message = node (codes "ArithmeticException") (plains_of (text message ∷ []))

abbrev pub out_of_range : Plain
out_of_range = arithmetic_exception (codes "integer out of range")

abbrev pub divided_by_zero : Plain
divided_by_zero = arithmetic_exception (codes "divided by zero")

-- of the list of the arguments
abbrev pub call_failed : Plain → Plain
call_failed arguments = node (codes "CallFailed") (plains_of (arguments ∷ []))

abbrev pub stack_overflow : Plain
stack_overflow = node (codes "StackOverflow") (plains_of [])

abbrev pub too_large : Plain
too_large = node (codes "TooLarge") (plains_of [])

abbrev pub visit_type : Plain
visit_type = node (codes "VisitType") (plains_of [])

abbrev pub wrong_kind : Plain
wrong_kind = node (codes "WrongKind") (plains_of [])

abbrev pub no_return : Plain
no_return = node (codes "NoReturn") (plains_of [])

abbrev pub uninitialized_variable : List ℕ → Plain
uninitialized_variable name = node (codes "UninitializedVariable") (plains_of (text name ∷ []))

abbrev pub index_out_of_bounds : ℤ → Plain
index_out_of_bounds i = node (codes "IndexOutOfBounds") (plains_of (int i ∷ []))

abbrev pub no_such_key : Plain → Plain
no_such_key key = node (codes "NoSuchKey") (plains_of (key ∷ []))

abbrev pub no_such_field : List ℕ → Plain
no_such_field name = node (codes "NoSuchField") (plains_of (text name ∷ []))

abbrev pub empty_list : Plain
empty_list = node (codes "EmptyList") (plains_of [])

abbrev pub empty_set : Plain
empty_set = node (codes "EmptySet") (plains_of [])

abbrev pub illegal_argument : Plain → Plain
illegal_argument argument = node (codes "IllegalArgument") (plains_of (argument ∷ []))

abbrev pub path_not_found : Plain → Plain
path_not_found place = node (codes "PathNotFound") (plains_of (place ∷ []))

abbrev pub io_exception : List ℕ → Plain
io_exception message = node (codes "IO") (plains_of (text message ∷ []))

abbrev pub parse_error : Plain → Plain
parse_error place = node (codes "ParseError") (plains_of (place ∷ []))

abbrev pub ambiguity : Plain → List ℕ → Plain
ambiguity place sort = node (codes "Ambiguity") (plains_of (place ∷ text sort ∷ []))
