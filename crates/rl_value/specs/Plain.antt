-- A value as contracts see it: a plain tree.
use Rattle.std.specs.Prelude.{◌≡◌, ℕ, ℤ, ◌+◌, ◌≤◌, ◌^◌, max, Bool, List, [], ◌∷◌, ◌++◌, length, Option, refl}
use Rattle.std.proofs.Common.{ap}
use Rattle.rl_value.specs.declared.shape.Scheme.{Scheme}
use Rattle.rl_value.specs.declared.shape.Role.{Role}

-- what stands at the root of a syntax tree; sort and label are UTF-8
pub record Shape : Type 0 where
  pub role : Role
  pub sort : List ℕ
  pub label : List ℕ
  pub rule : ℕ

mutual
  -- texts, paths and names are their bytes in UTF-8
  pub data Plain : Type 0 where
    bool : Bool → Plain
    int : ℤ → Plain
    text : List ℕ → Plain
    -- a scheme, a path, and an offset with a length
    location : Scheme → List ℕ → Option (ℕ × ℕ) → Plain
    tuple : Plains → Plain
    list : Plains → Plain
    -- the elements rise
    set : Plains → Plain
    -- the keys rise
    mapping : Pairs → Plain
    -- a constructor's name and its fields
    node : List ℕ → Plains → Plain
    -- a syntax tree; each part is a tree or a leaf
    tree : Shape → Plains → Plain
    leaf : List ℕ → Plain

  pub data Plains : Type 0 where
    nil : Plains
    cons : Plain → Plains → Plains

  -- a key and its value, and those after it
  pub data Pairs : Type 0 where
    no_pairs : Pairs
    pair : Plain → Plain → Pairs → Pairs

abbrev pub plains_of : List Plain → Plains
plains_of [] = nil
plains_of (t ∷ ts) = cons t (plains_of ts)

abbrev pub items_of : Plains → List Plain
items_of nil = []
items_of (cons t ts) = t ∷ items_of ts

pub items_of-plains_of : (ts : List Plain) → items_of (plains_of ts) ≡ ts
items_of-plains_of [] = refl
items_of-plains_of (t ∷ ts) = ap (λ us. t ∷ us) (items_of-plains_of ts)

abbrev pub pairs_of : List (Plain × Plain) → Pairs
pairs_of [] = no_pairs
pairs_of (p ∷ ps) = pair p.0 p.1 (pairs_of ps)

abbrev pub entries_of : Pairs → List (Plain × Plain)
entries_of no_pairs = []
entries_of (pair k v ps) = (k, v) ∷ entries_of ps

pub entries_of-pairs_of : (ps : List (Plain × Plain)) → entries_of (pairs_of ps) ≡ ps
entries_of-pairs_of [] = refl
entries_of-pairs_of (p ∷ ps) = ap (λ us. p ∷ us) (entries_of-pairs_of ps)

-- in what a call without a result ends
abbrev pub empty_tuple : Plain
empty_tuple = tuple nil

-- one for the value itself, with the bytes of a text or path, and the sizes of its parts, keys and values
abbrev mutual
  pub plain_size : Plain → ℕ
  plain_size (bool b) = 1
  plain_size (int n) = 1
  plain_size (text bytes) = 1 + length bytes
  plain_size (location scheme path span) = 1 + length path
  plain_size (tuple ts) = 1 + plains_size ts
  plain_size (list ts) = 1 + plains_size ts
  plain_size (set ts) = 1 + plains_size ts
  plain_size (mapping ps) = 1 + pairs_size ps
  plain_size (node name ts) = 1 + plains_size ts
  plain_size (tree shape ts) = 1 + plains_size ts
  plain_size (leaf bytes) = 1 + length bytes

  pub plains_size : Plains → ℕ
  plains_size nil = 0
  plains_size (cons t ts) = plain_size t + plains_size ts

  pub pairs_size : Pairs → ℕ
  pairs_size no_pairs = 0
  pairs_size (pair k v ps) = plain_size k + plain_size v + pairs_size ps

-- one without parts, else one more than the highest part
abbrev mutual
  pub plain_height : Plain → ℕ
  plain_height (bool b) = 1
  plain_height (int n) = 1
  plain_height (text bytes) = 1
  plain_height (location scheme path span) = 1
  plain_height (tuple ts) = 1 + plains_height ts
  plain_height (list ts) = 1 + plains_height ts
  plain_height (set ts) = 1 + plains_height ts
  plain_height (mapping ps) = 1 + pairs_height ps
  plain_height (node name ts) = 1 + plains_height ts
  plain_height (tree shape ts) = 1 + plains_height ts
  plain_height (leaf bytes) = 1

  pub plains_height : Plains → ℕ
  plains_height nil = 0
  plains_height (cons t ts) = max (plain_height t) (plains_height ts)

  pub pairs_height : Pairs → ℕ
  pairs_height no_pairs = 0
  pairs_height (pair k v ps) = max (max (plain_height k) (plain_height v)) (pairs_height ps)

-- neither too large nor too high
pub record Fits (t : Plain) : Type 0 where
  pub size : plain_size t ≤ 2 ^ 24
  pub height : plain_height t ≤ 2000

-- the text of a syntax tree: its leaves joined
abbrev mutual
  pub plain_text : Plain → List ℕ
  plain_text (tree shape ts) = plains_text ts
  plain_text (leaf bytes) = bytes
  plain_text t = []

  pub plains_text : Plains → List ℕ
  plains_text nil = []
  plains_text (cons t ts) = plain_text t ++ plains_text ts

-- what a syntax tree is made of
abbrev pub IsPart : Plain → Type 0
IsPart (tree shape ts) = Unit {0}
IsPart (leaf bytes) = Unit {0}
IsPart t = ⊥

abbrev pub IsTree : Plain → Type 0
IsTree (tree shape ts) = Unit {0}
IsTree t = ⊥

-- what the parts of a made value are
pub ruleset back = (items_of-plains_of, entries_of-pairs_of)
