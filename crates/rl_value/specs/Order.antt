-- The order of values.
use Rattle.std.specs.Prelude.{ℕ, List}
use Rattle.std.specs.declared.cmp.Ordering.{Ordering}
use Rattle.std.specs.declared.cmp.Ordering.TheVariants.{Less, Equal, Greater}
use Rattle.std.specs.Ordering.{nat_cmp, int_cmp, bool_cmp, ordering_then}
use Rattle.std.specs.Option.{option_cmp}
use Rattle.std.specs.Cmp.Lexicographic.{slice_cmp}
use Rattle.rl_value.specs.declared.shape.Scheme.{Scheme}
use Rattle.rl_value.specs.declared.shape.Scheme.TheVariants.{Cwd, Unknown}
use Rattle.rl_value.specs.declared.shape.Role.{Role}
use Rattle.rl_value.specs.declared.shape.Role.TheVariants.{Syntax, Lexical, Layout, Keyword, Rep, Opt}
use Rattle.rl_value.specs.Plain.{Shape, Plain, bool, int, text, location, tuple, list, set, mapping, node, tree, leaf, Plains, nil, cons, Pairs, no_pairs, pair, plains_text}

-- the place of a value's kind in the order of kinds
abbrev pub rank : Plain → ℕ
rank (bool b) = 0
rank (int n) = 1
rank (text bytes) = 2
rank (location scheme path span) = 3
rank (tuple ts) = 4
rank (list ts) = 5
rank (set ts) = 6
rank (mapping ps) = 7
rank (node name ts) = 8
rank (tree shape ts) = 9
rank (leaf bytes) = 10

abbrev pub scheme_rank : Scheme → ℕ
scheme_rank Cwd = 0
scheme_rank Unknown = 1

abbrev pub role_rank : Role → ℕ
role_rank Syntax = 0
role_rank Lexical = 1
role_rank Layout = 2
role_rank Keyword = 3
role_rank Rep = 4
role_rank Opt = 5

abbrev pub bytes_cmp : List ℕ → List ℕ → Ordering
bytes_cmp = slice_cmp nat_cmp

-- by offset, then length
abbrev pub span_cmp : ℕ × ℕ → ℕ × ℕ → Ordering
span_cmp p q = ordering_then (nat_cmp p.0 q.0) (nat_cmp p.1 q.1)

-- by sort, then role, then rule, then label
abbrev pub shape_cmp : Shape → Shape → Ordering
shape_cmp p q =
    ordering_then (bytes_cmp p.sort q.sort)
    (ordering_then (nat_cmp (role_rank p.role) (role_rank q.role))
    (ordering_then (nat_cmp p.rule q.rule)
    (bytes_cmp p.label q.label)))

abbrev mutual
  -- kinds in their order, and two of one kind by what they hold
  pub plain_cmp : Plain → Plain → Ordering
  plain_cmp (bool a) (bool b) = bool_cmp a b
  plain_cmp (int m) (int n) = int_cmp m n
  plain_cmp (text a) (text b) = bytes_cmp a b
  -- no span comes before a span
  plain_cmp (location s p a) (location t q b) =
      ordering_then (nat_cmp (scheme_rank s) (scheme_rank t)) (ordering_then (bytes_cmp p q) (option_cmp span_cmp a b))
  plain_cmp (tuple a) (tuple b) = plains_cmp a b
  plain_cmp (list a) (list b) = plains_cmp a b
  plain_cmp (set a) (set b) = plains_cmp a b
  plain_cmp (mapping a) (mapping b) = pairs_cmp a b
  plain_cmp (node m a) (node n b) = ordering_then (bytes_cmp m n) (plains_cmp a b)
  -- by their text first
  plain_cmp (tree p a) (tree q b) =
      ordering_then (bytes_cmp (plains_text a) (plains_text b)) (ordering_then (shape_cmp p q) (plains_cmp a b))
  plain_cmp (leaf a) (leaf b) = bytes_cmp a b
  plain_cmp a b = nat_cmp (rank a) (rank b)

  -- the first that differ decide, and a list comes before what it begins
  pub plains_cmp : Plains → Plains → Ordering
  plains_cmp nil nil = Equal
  plains_cmp nil (cons t ts) = Less
  plains_cmp (cons t ts) nil = Greater
  plains_cmp (cons s ss) (cons t ts) = ordering_then (plain_cmp s t) (plains_cmp ss ts)

  -- the list of key, value, key, value
  pub pairs_cmp : Pairs → Pairs → Ordering
  pairs_cmp no_pairs no_pairs = Equal
  pairs_cmp no_pairs (pair k v ps) = Less
  pairs_cmp (pair k v ps) no_pairs = Greater
  pairs_cmp (pair k v ps) (pair l w qs) = ordering_then (plain_cmp k l) (ordering_then (plain_cmp v w) (pairs_cmp ps qs))
