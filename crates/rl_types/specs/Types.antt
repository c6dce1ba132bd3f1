-- Which types are below which, the least type above two, and which values have a type.
use Rattle.std.specs.Prelude.{◌≡◌, ℕ, ◌+◌, Bool, true, false, ◌==◌, ◌&&◌, ◌||◌, if◌then◌else◌, List, Option, Some, None, codes}
use Rattle.std.specs.List.{All}
use Rattle.std.specs.Str.{bytes_eq}
use Rattle.rl_value.specs.Plain.{Plain, Plains, Pairs}
use Rattle.rl_value.specs.Plain as v
use Rattle.rl_types.specs.PlainType.{PlainType, PlainTypes}
use Rattle.rl_types.specs.PlainType as t
use Rattle.rl_types.specs.Declarations.{Declarations, Constructor, is_sort, constructor}

-- the type of all syntax trees
abbrev pub tree_name : List ℕ
tree_name = codes "Tree"

-- void is below all types, and all are below value; every sort is below Tree
unfoldable mutual
  pub subtype : Declarations → PlainType → PlainType → Bool
  subtype d T t.value = true
  subtype d t.void U = true
  subtype d t.bool t.bool = true
  subtype d t.int t.int = true
  subtype d t.str t.str = true
  subtype d t.loc t.loc = true
  subtype d (t.list T) (t.list U) = subtype d T U
  subtype d (t.set T) (t.set U) = subtype d T U
  subtype d (t.mapping K V) (t.mapping L W) = subtype d K L && subtype d V W
  subtype d (t.tuple Ts) (t.tuple Us) = subtypes d Ts Us
  subtype d (t.named m) (t.named n) = bytes_eq m n || (is_sort d m && bytes_eq n tree_name)
  subtype d T U = false

  pub subtypes : Declarations → PlainTypes → PlainTypes → Bool
  subtypes d t.nil t.nil = true
  subtypes d (t.cons T Ts) (t.cons U Us) = subtype d T U && subtypes d Ts Us
  subtypes d Ts Us = false

abbrev pub type_count : PlainTypes → ℕ
type_count t.nil = 0
type_count (t.cons T Ts) = type_count Ts + 1

-- a sort, or Tree
abbrev pub is_tree : Declarations → List ℕ → Bool
is_tree d name = is_sort d name || bytes_eq name tree_name

-- the least type above two names
abbrev pub join_names : Declarations → List ℕ → List ℕ → PlainType
join_names d m n =
    if bytes_eq m n then t.named m
    else if is_tree d m && is_tree d n then t.named tree_name
    else t.value

-- the least type above both
unfoldable mutual
  pub join : Declarations → PlainType → PlainType → PlainType
  join d t.void U = U
  join d T t.void = T
  join d t.bool t.bool = t.bool
  join d t.int t.int = t.int
  join d t.str t.str = t.str
  join d t.loc t.loc = t.loc
  join d (t.list T) (t.list U) = t.list (join d T U)
  join d (t.set T) (t.set U) = t.set (join d T U)
  join d (t.mapping K V) (t.mapping L W) = t.mapping (join d K L) (join d V W)
  join d (t.tuple Ts) (t.tuple Us) = if type_count Ts == type_count Us then t.tuple (joins d Ts Us) else t.value
  join d (t.named m) (t.named n) = join_names d m n
  join d T U = t.value

  pub joins : Declarations → PlainTypes → PlainTypes → PlainTypes
  joins d (t.cons T Ts) (t.cons U Us) = t.cons (join d T U) (joins d Ts Us)
  joins d Ts Us = t.nil

abbrev pub value_count : Plains → ℕ
value_count v.nil = 0
value_count (v.cons u us) = value_count us + 1

-- the constructor, if there is one, is of the data type
abbrev pub is_of : Option Constructor → List ℕ → Bool
is_of None name = false
is_of (Some c) name = bytes_eq c.owner name

-- all values have value, and none void; an empty collection has every type of its kind
unfoldable mutual
  pub has : Declarations → Plain → PlainType → Bool
  has d u t.value = true
  has d (v.bool b) t.bool = true
  has d (v.int n) t.int = true
  has d (v.text bytes) t.str = true
  has d (v.location scheme path span) t.loc = true
  has d (v.list us) (t.list T) = all_have d us T
  has d (v.set us) (t.set T) = all_have d us T
  has d (v.mapping ps) (t.mapping K V) = pairs_have d ps K V
  has d (v.tuple us) (t.tuple Ts) = each_has d us Ts
  -- a constructor has its data type
  has d (v.node name us) (t.named n) = is_of (constructor d name (value_count us)) n
  -- a tree has its sort, and Tree
  has d (v.tree shape us) (t.named n) = bytes_eq shape.sort n || bytes_eq n tree_name
  has d u T = false

  pub all_have : Declarations → Plains → PlainType → Bool
  all_have d v.nil T = true
  all_have d (v.cons u us) T = has d u T && all_have d us T

  pub each_has : Declarations → Plains → PlainTypes → Bool
  each_has d v.nil t.nil = true
  each_has d (v.cons u us) (t.cons T Ts) = has d u T && each_has d us Ts
  each_has d us Ts = false

  pub pairs_have : Declarations → Pairs → PlainType → PlainType → Bool
  pairs_have d v.no_pairs K V = true
  pairs_have d (v.pair k u ps) K V = has d k K && has d u V && pairs_have d ps K V

-- no data type is a sort
abbrev pub IsApart : Declarations → Type 0
IsApart d = All (λ c. is_sort d c.owner ≡ false) d.constructors
