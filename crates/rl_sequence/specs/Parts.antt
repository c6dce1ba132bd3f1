-- What the parts of a sequence hold, and how full they are.
use Rattle.std.specs.Prelude.{◌≡◌, ℕ, suc, ◌+◌, ◌<◌, ◌≤◌, ◌^◌, List, [], ◌∷◌, ◌++◌, Option, Some, None, length, take, drop, map}
use Rattle.std.specs.List.{flat_map, All}
use Rattle.rl_sequence.specs.declared.children.Child.{Child}

-- some elements of xs from place i on, one at least
pub record IsPart {X : Type 0} (xs : List X) (i : ℕ) (part : List X) : Type 0 where
  pub some : 0 < length part
  pub within : i + length part ≤ length xs
  pub holds : take (i + length part) xs ≡ take i xs ++ part

-- behind a part of width m come parts of these widths, and no two neighbours fit into one
abbrev pub FullAfter : ℕ → List ℕ → Type 0
FullAfter m [] = Unit {0}
FullAfter m (n ∷ ns) = (64 < m + n) × FullAfter n ns

-- parts of these widths, of which no two neighbours fit into one
abbrev pub AreFull : List ℕ → Type 0
AreFull [] = Unit {0}
AreFull (n ∷ ns) = FullAfter n ns

module _ {C X : Type 0} (elements : C → List X) (is_right : C → Type 0) (width : C → ℕ) where
  -- a part that is right and has these elements
  pub record Makes (xs : List X) (c : C) : Type 0 where
    pub right : is_right c
    pub holds : elements c ≡ xs

  -- a part like another
  pub record Copies (a c : C) : Type 0 where
    pub right : is_right c
    pub holds : elements c ≡ elements a
    pub as_wide : width c ≡ width a

  abbrev pub elements_if : Option C → List X
  elements_if None = []
  elements_if (Some c) = elements c

  abbrev pub IsRightIf : Option C → Type 0
  IsRightIf None = Unit {0}
  IsRightIf (Some c) = is_right c

  -- a part, and maybe one behind it, with these elements
  pub record MakesTwo (xs : List X) (p : C × Option C) : Type 0 where
    pub right : is_right p.0
    pub more_right : IsRightIf p.1
    pub holds : elements p.0 ++ elements_if p.1 ≡ xs

  -- two parts in one, which is no narrower than either
  pub record Merges (a b c : C) : Type 0 where
    pub right : is_right c
    pub holds : elements c ≡ elements a ++ elements b
    pub first : width a ≤ width c
    pub second : width b ≤ width c

  -- the elements of all children, one after another
  abbrev pub flat : List (Child C) → List X
  flat ks = flat_map (λ k. elements k.chunk.value) ks

  abbrev pub widths : List (Child C) → List ℕ
  widths ks = map (λ k. width k.chunk.value) ks

  -- a child that is right and not empty, with its number of elements
  pub record IsChild (k : Child C) : Type 0 where
    pub right : is_right k.chunk.value
    pub count_is : k.count ≡ length (elements k.chunk.value)
    pub some : 0 < k.count

  -- children of which no two neighbours fit into one
  pub record AreChildren (ks : List (Child C)) : Type 0 where
    pub right : All IsChild ks
    pub full : AreFull (widths ks)

  -- children like others, one by one
  pub record AreAlike (ks ls : List (Child C)) : Type 0 where
    pub right : All IsChild ls
    pub holds : flat ls ≡ flat ks
    pub as_wide : widths ls ≡ widths ks

  -- children among which one of width old stood at this place
  pub record IsGap (place old : ℕ) (others : List (Child C)) : Type 0 where
    pub right : All IsChild others
    pub full : AreFull (widths (take place others) ++ (old ∷ widths (drop place others)))
    pub within : place ≤ length others

  -- the child of ks with the element at place i, and the others
  pub record IsOpening (ks : List (Child C)) (i place inside old : ℕ) (c : C) (others : List (Child C)) : Type 0 where
    pub gap : IsGap place old others
    pub chunk_right : is_right c
    pub holds : flat ks ≡ flat (take place others) ++ (elements c ++ flat (drop place others))
    pub before : length (flat (take place others)) + inside ≡ i
    pub within : inside < length (elements c)
    pub fewer : suc (length others) ≡ length ks

  -- some children with these elements, at most so many
  pub record AreSome (xs : List X) (most : ℕ) (ks : List (Child C)) : Type 0 where
    pub children : AreChildren ks
    pub holds : flat ks ≡ xs
    pub few : length ks ≤ most

  -- children with two more, which have become one where they fit
  pub record Meets (front : List (Child C)) (last first : Child C) (ks : List (Child C)) : Type 0 where
    pub right : All IsChild front → All IsChild ks
    pub holds : flat ks ≡ flat front ++ (elements last.chunk.value ++ elements first.chunk.value)
    pub full : (ns : List ℕ) → AreFull (widths front ++ (width last.chunk.value ∷ [])) → FullAfter (width first.chunk.value) ns → AreFull (widths ks ++ ns)
    pub most : length ks ≤ length front + 2
    pub least : length front < length ks

  -- the children of two lists, of which the last and the first may have become one
  pub record Joins (front back ks : List (Child C)) : Type 0 where
    pub children : AreChildren ks
    pub holds : flat ks ≡ flat front ++ flat back
    pub most : length ks ≤ length front + length back
    pub least : length front + length back ≤ suc (length ks)

  -- what holds of a level
  pub record IsLevel (count : ℕ) (ks : List (Child C)) : Type 0 where
    pub count_is : count ≡ length (flat ks)
    pub right : All IsChild ks
    pub full : AreFull (widths ks)
    pub small : count ≤ 2 ^ 32
