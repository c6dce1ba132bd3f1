-- A type as contracts see it: without places, labels and other spellings.
use Rattle.std.specs.Prelude.{ℕ, List, [], ◌∷◌}
use Rattle.rl_syntax.specs.declared.ty.Ty.{Ty}
use Rattle.rl_syntax.specs.declared.ty.Ty.TheOpen as t
use Rattle.rl_syntax.specs.declared.ty.Ty.TheFolds.{fold-Ty, fold-Field}
use Rattle.rl_syntax.specs.declared.ty.Field.{Field}

mutual
  pub data PlainType : Type 0 where
    bool : PlainType
    int : PlainType
    str : PlainType
    loc : PlainType
    -- no value has it
    void : PlainType
    -- all values have it
    value : PlainType
    list : PlainType → PlainType
    set : PlainType → PlainType
    -- of keys and values
    mapping : PlainType → PlainType → PlainType
    tuple : PlainTypes → PlainType
    -- a data type or a sort
    named : List ℕ → PlainType

  pub data PlainTypes : Type 0 where
    nil : PlainTypes
    cons : PlainType → PlainTypes → PlainTypes

abbrev pub types_of : List PlainType → PlainTypes
types_of [] = nil
types_of (t ∷ ts) = cons t (types_of ts)

-- of a type as it is written, from the types in it; rel[..] is a set of tuples, and lrel[..] a list of tuples
abbrev pub plain_of_form : t.Ty-F PlainType PlainType → PlainType
plain_of_form (t.List place element) = list element
plain_of_form (t.Set place element) = set element
plain_of_form (t.Map place key content) = mapping key content
plain_of_form (t.Tuple place fields) = tuple (types_of fields)
plain_of_form (t.Relation place fields) = set (tuple (types_of fields))
plain_of_form (t.ListRelation place fields) = list (tuple (types_of fields))
plain_of_form (t.Bool place) = bool
plain_of_form (t.Int place) = int
plain_of_form (t.Str place) = str
plain_of_form (t.Loc place) = loc
plain_of_form (t.Void place) = void
plain_of_form (t.Value place) = value
plain_of_form (t.Named place name) = named name

abbrev pub plain_of_field : t.Field-F PlainType PlainType → PlainType
plain_of_field field = field.ty

abbrev pub plain_type : Ty → PlainType
plain_type = fold-Ty PlainType PlainType plain_of_form plain_of_field

abbrev pub field_type : Field → PlainType
field_type = fold-Field PlainType PlainType plain_of_form plain_of_field
