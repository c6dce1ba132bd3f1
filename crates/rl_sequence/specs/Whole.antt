-- The elements of a whole sequence: three levels over leaves, and the last items beside them.
use Rattle.std.specs.Prelude.{◌≡◌, ℕ, ◌≤◌, ◌+◌, ◌^◌, List, ◌++◌, length}
use Rattle.rl_sequence.specs.declared.leaf.Leaf.{Leaf}
use Rattle.rl_sequence.specs.declared.level.Level.{Level}
use Rattle.rl_sequence.specs.Parts.{flat, IsLevel}

-- a level that is part of another has at most 64 children
pub record IsInner {C X : Type 0} (elements : C → List X) (is_right : C → Type 0) (width : C → ℕ) (l : Level C) : Type 0 where
  pub level : IsLevel elements is_right width l.count l.children.items
  pub few : length l.children.items ≤ 64

-- a level with these elements and at most so many children
pub record IsEdited {C X : Type 0} (elements : C → List X) (is_right : C → Type 0) (width : C → ℕ) (xs : List X) (most : ℕ) (l : Level C) : Type 0 where
  pub right : IsLevel elements is_right width l.count l.children.items
  pub holds : flat elements is_right width l.children.items ≡ xs
  pub few : length l.children.items ≤ most

abbrev pub level_width : {C : Type 0} → Level C → ℕ
level_width l = length l.children.items

module _ {X : Type 0} where
  abbrev pub leaf_elements : Leaf X → List X
  leaf_elements leaf = leaf.items.items

  abbrev pub leaf_width : Leaf X → ℕ
  leaf_width leaf = length leaf.items.items

  abbrev pub IsRightLeaf : Leaf X → Type 0
  IsRightLeaf leaf = length leaf.items.items ≤ 64

  abbrev pub row_elements : Level (Leaf X) → List X
  row_elements l = flat leaf_elements IsRightLeaf leaf_width l.children.items

  abbrev pub IsRightRow : Level (Leaf X) → Type 0
  IsRightRow l = IsInner leaf_elements IsRightLeaf leaf_width l

  abbrev pub block_elements : Level (Level (Leaf X)) → List X
  block_elements l = flat row_elements IsRightRow level_width l.children.items

  abbrev pub IsRightBlock : Level (Level (Leaf X)) → Type 0
  IsRightBlock l = IsInner row_elements IsRightRow level_width l

  abbrev pub body_elements : Level (Level (Level (Leaf X))) → List X
  body_elements l = flat block_elements IsRightBlock level_width l.children.items

  abbrev pub IsRightBody : Level (Level (Level (Leaf X))) → Type 0
  IsRightBody l = IsLevel block_elements IsRightBlock level_width l.count l.children.items

  abbrev pub whole_elements : Level (Level (Level (Leaf X))) → Leaf X → List X
  whole_elements body tail = body_elements body ++ leaf_elements tail

  -- what holds of a whole sequence
  pub record IsWhole (body : Level (Level (Level (Leaf X)))) (tail : Leaf X) : Type 0 where
    pub body_right : IsRightBody body
    pub tail_right : IsRightLeaf tail
    pub small : body.count + length tail.items.items ≤ 2 ^ 32
