-- The values directly inside a value, and the value with others in their place.
use Rattle.std.specs.Prelude.{ℕ, zero, suc, get_or, ◌+◌, Bool, true, false, List, [], ◌∷◌, ◌++◌, length, drop}
use Rattle.rl_value.specs.declared.shape.Role.{Role}
use Rattle.rl_value.specs.declared.shape.Role.TheVariants.{Layout, Rep, Opt}
use Rattle.rl_value.specs.Plain.{Plain, tuple, list, set, mapping, node, tree, leaf, Plains, nil, cons, Pairs, no_pairs, pair, plains_of, items_of, pairs_of}
use Rattle.rl_value.specs.Order.{plain_cmp}
use Rattle.rl_value.specs.Rising.{rising}
use Rattle.rl_value.specs.Entries.{put_all}

-- by a tree's role: nothing of layout, what is inside a repetition or an option, and another tree itself
abbrev pub by_role : {A : Type 0} → Role → A → A → A → A
by_role Layout nothing inside itself = nothing
by_role Rep nothing inside itself = inside
by_role Opt nothing inside itself = inside
by_role role nothing inside itself = itself

abbrev mutual
  -- what a part of a tree gives
  pub part_kids : Plain → List Plain
  part_kids (tree shape ts) = by_role shape.role [] (parts_kids ts) (tree shape ts ∷ [])
  part_kids (leaf bytes) = []
  part_kids t = t ∷ []

  pub parts_kids : Plains → List Plain
  parts_kids nil = []
  parts_kids (cons t ts) = part_kids t ++ parts_kids ts

-- key, value, key, value
abbrev pub pairs_kids : Pairs → List Plain
pairs_kids no_pairs = []
pairs_kids (pair k v ps) = k ∷ v ∷ pairs_kids ps

abbrev pub kids : Plain → List Plain
kids (tuple ts) = items_of ts
kids (list ts) = items_of ts
kids (set ts) = items_of ts
kids (mapping ps) = pairs_kids ps
kids (node name ts) = items_of ts
kids (tree shape ts) = parts_kids ts
kids t = []

-- for each part, how many kids the parts up to it give, and n before them
abbrev pub kid_ends : ℕ → List Plain → List ℕ
kid_ends n [] = []
kid_ends n (t ∷ ts) = (n + length (part_kids t)) ∷ kid_ends (n + length (part_kids t)) ts

-- how many kids stand before part j, and n before all parts
abbrev pub before : ℕ → List ℕ → ℕ → ℕ
before n ends zero = n
before n ends (suc j) = get_or ends j 0

-- whether a part gives what is inside it
abbrev pub is_opened : Plain → Bool
is_opened (tree shape ts) = by_role shape.role false true false
is_opened t = false

abbrev pub first_or : Plain → List Plain → Plain
first_or t [] = t
first_or t (k ∷ ks) = k

abbrev mutual
  -- a part with the first of ks in place of its kids
  pub renew_part : Plain → List Plain → Plain
  renew_part (tree shape ts) ks = by_role shape.role (tree shape ts) (tree shape (renew_parts ts ks)) (first_or (tree shape ts) ks)
  renew_part (leaf bytes) ks = leaf bytes
  renew_part t ks = first_or t ks

  -- the parts from the left, each with the next of ks
  pub renew_parts : Plains → List Plain → Plains
  renew_parts nil ks = nil
  renew_parts (cons t ts) ks = cons (renew_part t ks) (renew_parts ts (drop (length (part_kids t)) ks))

abbrev pub in_pairs : List Plain → List (Plain × Plain)
in_pairs (k ∷ v ∷ ks) = (k, v) ∷ in_pairs ks
in_pairs ks = []

-- the value with ks in place of its kids
abbrev pub renew : Plain → List Plain → Plain
renew (tuple ts) ks = tuple (plains_of ks)
renew (list ts) ks = list (plains_of ks)
renew (set ts) ks = set (plains_of (rising plain_cmp ks))
renew (mapping ps) ks = mapping (pairs_of (put_all [] (in_pairs ks)))
renew (node name ts) ks = node name (plains_of ks)
renew (tree shape ts) ks = tree shape (renew_parts ts ks)
renew t ks = t
