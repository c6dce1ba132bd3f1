-- The exceptions that are there without a declaration.
use Rattle.std.specs.Prelude.{ℕ, List, [], ◌∷◌, map, codes}
use Rattle.rl_types.specs.PlainType.{PlainType}
use Rattle.rl_types.specs.PlainType as t
use Rattle.rl_types.specs.Declarations.{Constructor}
use Rattle.rl_types.specs.declared.exceptions.Basic.{Basic}
use Rattle.rl_types.specs.declared.exceptions.Basic.TheVariants as b
use Rattle.rl_types.specs.declared.exceptions.Exception.{Exception}

-- the data type of the exceptions
abbrev pub exception_name : List ℕ
exception_name = codes "RuntimeException"

-- a field without a name
abbrev pub unnamed : PlainType → List ℕ × PlainType
unnamed type = ([], type)

-- its fields have no names
abbrev pub exception : List ℕ → List PlainType → Constructor
exception name types = record { owner = exception_name; name = name; fields = map unnamed types }

abbrev pub exceptions : List Constructor
exceptions =
    exception (codes "ArithmeticException") (t.str ∷ [])
    ∷ exception (codes "CallFailed") (t.list t.value ∷ [])
    ∷ exception (codes "StackOverflow") []
    ∷ exception (codes "TooLarge") []
    ∷ exception (codes "VisitType") []
    ∷ exception (codes "WrongKind") []
    ∷ exception (codes "NoReturn") []
    ∷ exception (codes "UninitializedVariable") (t.str ∷ [])
    ∷ exception (codes "IndexOutOfBounds") (t.int ∷ [])
    ∷ exception (codes "NoSuchKey") (t.value ∷ [])
    ∷ exception (codes "NoSuchField") (t.str ∷ [])
    ∷ exception (codes "EmptyList") []
    ∷ exception (codes "EmptySet") []
    ∷ exception (codes "IllegalArgument") (t.value ∷ [])
    ∷ exception (codes "PathNotFound") (t.loc ∷ [])
    ∷ exception (codes "IO") (t.str ∷ [])
    ∷ exception (codes "ParseError") (t.loc ∷ [])
    ∷ exception (codes "Ambiguity") (t.loc ∷ t.str ∷ [])
    ∷ []

-- how the program writes them down

abbrev pub basic_type : Basic → PlainType
basic_type b.Int = t.int
basic_type b.Str = t.str
basic_type b.Loc = t.loc
basic_type b.Value = t.value
basic_type b.Values = t.list t.value

abbrev pub basic_field : Basic → List ℕ × PlainType
basic_field basic = unnamed (basic_type basic)

abbrev pub exception_of : Exception → Constructor
exception_of e = record { owner = exception_name; name = e.name.now; fields = map basic_field e.fields.now }
