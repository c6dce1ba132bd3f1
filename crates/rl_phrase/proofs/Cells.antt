-- Lists of cells stay as they are when cells are added.
use Rattle.std.proofs.Common.{◌≡◌, ℕ, suc, ◌<◌, ◌≤◌, nat_eq, Bool, zero, true, false, cond, List, [], ◌∷◌, ◌++◌, length, Some, reverse, get_or, refl, sym, ap, ◌∙◌, subst, ⊎_elim, arith}
use Rattle.std.proofs.lemmas.List.{reverse-append, length-reverse, get_or_append_left, get_or_at}
use Rattle.std.proofs.lemmas.Bool.{ne_eqb, eq-eqb}
use Rattle.std.proofs.lemmas.Bool.Decides.{eqb_tells}
use Rattle.rl_phrase.specs.declared.arena.Item.{Item}
use Rattle.rl_phrase.specs.declared.arena.Item.TheVariants as item
use Rattle.rl_phrase.specs.declared.arena.Cell.{Cell}
use Rattle.rl_phrase.specs.Tree.{Tree, Trees, Token, Node, none, more}
use Rattle.rl_phrase.specs.Phr.{node_of}
use Rattle.rl_phrase.specs.Machine.{turned, turned_on}
use Rattle.rl_phrase.specs.Arena.{item_tree, parts_in, tree_in, IsWithin, IsOlder, AreOlder, Reads, node_alone}

pub grows : (cell : Cell) (cells : List Cell) (list : ℕ) → list ≤ length cells → parts_in (cell ∷ cells) list ≡ parts_in cells list
grows cell cells list le =
    let no : nat_eq list (suc (length cells)) ≡ false = ne_eqb list (suc (length cells)) (λ q. absurd (omega arith)) in
    ap (λ b. cond b (item_tree (parts_in cells) cell.item ∷ parts_in cells cell.before) (parts_in cells list)) no

tree_grows : (cell : Cell) (cells : List Cell) (i : Item) → IsWithin (length cells) i → tree_in (cell ∷ cells) i ≡ tree_in cells i
tree_grows cell cells (item.Token t) w = refl
tree_grows cell cells (item.Node r f t parts) w = ap (λ x. Node r f t (turned x)) (grows cell cells parts w)

newest : (cell : Cell) (cells : List Cell) → parts_in (cell ∷ cells) (suc (length cells)) ≡ tree_in cells cell.item ∷ parts_in cells cell.before
newest cell cells =
    let yes : nat_eq (suc (length cells)) (suc (length cells)) ≡ true = eq-eqb _ _ refl in
    ap (λ b. cond b (item_tree (parts_in cells) cell.item ∷ parts_in cells cell.before) (parts_in cells (suc (length cells)))) yes

-- what stands there, with one cell more
both_grow : (cell : Cell) (cells : List Cell) (c : Cell) (n : ℕ) → n ≤ length cells → IsOlder c n → tree_in cells c.item ∷ parts_in cells c.before ≡ tree_in (cell ∷ cells) c.item ∷ parts_in (cell ∷ cells) c.before
both_grow cell cells c n le older =
    let before = older.0 in
    ap (λ t. t ∷ parts_in cells c.before) (sym (tree_grows cell cells c.item (wider n (length cells) c.item le older.1)))
    ∙ ap (λ ps. tree_in (cell ∷ cells) c.item ∷ ps) (sym (grows cell cells c.before (omega arith)))
  where
    wider : (n m : ℕ) (i : Item) → n ≤ m → IsWithin n i → IsWithin m i
    wider n m (item.Token t) le w = tt
    wider n m (item.Node r f t parts) le w = omega arith

reverse_more : (cell : Cell) (cells : List Cell) → reverse (cell ∷ cells) ≡ reverse cells ++ cell ∷ []
reverse_more cell cells = reverse-append (cell ∷ []) cells

pub found : (cells : List Cell) → AreOlder cells → (n : ℕ) (d : Cell) → n < length cells → Reads cells (suc n) (Some (get_or (reverse cells) n d))
found [] old n d lt = absurd (omega arith)
found (c ∷ cells) old n d lt = ⊎_elim here (there (found cells old.1 n d)) (eqb_tells n (length cells))
  where
    here : (nat_eq n (length cells) ≡ true) × (n ≡ length cells) → Reads (c ∷ cells) (suc n) (Some (get_or (reverse (c ∷ cells)) n d))
    here (q, e) =
        let is : get_or (reverse (c ∷ cells)) n d ≡ c = ap (λ l. get_or l n d) (reverse_more c cells) ∙ get_or_at (reverse cells) c [] d n (length-reverse cells ∙ sym e) in
        let parts : parts_in (c ∷ cells) (suc n) ≡ tree_in cells c.item ∷ parts_in cells c.before = ap (λ k. parts_in (c ∷ cells) (suc k)) e ∙ newest c cells in
        subst (λ x. Reads (c ∷ cells) (suc n) (Some x)) (sym is)
        (n, refl, subst (λ k. IsOlder c k) (sym e) old.0, parts ∙ both_grow c cells c (length cells) (omega arith) old.0)

    there : (n < length cells → Reads cells (suc n) (Some (get_or (reverse cells) n d))) → (nat_eq n (length cells) ≡ false) × (n ≡ length cells → ⊥) → Reads (c ∷ cells) (suc n) (Some (get_or (reverse (c ∷ cells)) n d))
    there earlier (q, ne) =
        let less : n < length cells = grind (arith, ne, lt) in
        let is : get_or (reverse (c ∷ cells)) n d ≡ get_or (reverse cells) n d = ap (λ l. get_or l n d) (reverse_more c cells) ∙ get_or_append_left (reverse cells) (c ∷ []) d n (omega (arith, length-reverse cells)) in
        let r = earlier less in
        let at : r.0 ≡ n = let e = r.1 in omega arith in
        let older : IsOlder (get_or (reverse cells) n d) n = subst (λ k. IsOlder (get_or (reverse cells) n d) k) at r.2 in
        subst (λ x. Reads (c ∷ cells) (suc n) (Some x)) (sym is)
        (n, refl, older, grows c cells (suc n) (omega arith) ∙ r.3 ∙ both_grow c cells (get_or (reverse cells) n d) n (omega arith) older)

-- a list that is not empty has a tree
pub record HasTree (parts : List Tree) : Type 0 where
  pub first : Tree
  pub rest : List Tree
  pub are : parts ≡ first ∷ rest

some_tree : (cells : List Cell) (n : ℕ) → n < length cells → HasTree (parts_in cells (suc n))
some_tree [] n lt = absurd (omega arith)
some_tree (c ∷ cells) n lt = ⊎_elim
    (λ (q : (nat_eq n (length cells) ≡ true) × (n ≡ length cells)). record { first = tree_in cells c.item; rest = parts_in cells c.before; are = ap (λ k. parts_in (c ∷ cells) (suc k)) q.1 ∙ newest c cells })
    (λ (q : (nat_eq n (length cells) ≡ false) × (n ≡ length cells → ⊥)).
    let ne = q.1 in
    let less : n < length cells = grind (arith, ne, lt) in
    let h = some_tree cells n less in
    record { first = h.first; rest = h.rest; are = grows c cells (suc n) (omega arith) ∙ h.are })
    (eqb_tells n (length cells))

-- the tree of a named row: its only part, where that is a node, or the node of its parts
name_none : (row from to : ℕ) (parts : List Tree) → parts ≡ [] → Node row from to (turned parts) ≡ node_of row from to (turned parts)
name_none row from to parts e = ap (λ ps. Node row from to (turned ps)) e ∙ sym (ap (λ ps. node_of row from to (turned ps)) e)

name_token : (row from to t : ℕ) (parts : List Tree) → parts ≡ Token t ∷ [] → Node row from to (turned parts) ≡ node_of row from to (turned parts)
name_token row from to t parts e = ap (λ ps. Node row from to (turned ps)) e ∙ sym (ap (λ ps. node_of row from to (turned ps)) e)

last_two : (ps : List Tree) (t u : Tree) (us : Trees) (row from to : ℕ) → Node row from to (turned_on ps (more t (more u us))) ≡ node_of row from to (turned_on ps (more t (more u us)))
last_two [] (Token x) u us row from to = refl
last_two [] (Node a b c ps) u us row from to = refl
last_two (p ∷ ps) t u us row from to = last_two ps p t (more u us) row from to

name_more : (row from to : ℕ) (t u : Tree) (ps parts : List Tree) → parts ≡ t ∷ u ∷ ps → Node row from to (turned parts) ≡ node_of row from to (turned parts)
name_more row from to t u ps parts e =
    ap (λ x. Node row from to (turned x)) e ∙ last_two ps u t none row from to ∙ sym (ap (λ x. node_of row from to (turned x)) e)

-- the list 0 is empty
pub no_list : (cells : List Cell) → parts_in cells 0 ≡ []
no_list [] = refl
no_list (c ∷ cells) = grows c cells 0 (omega arith) ∙ no_list cells

not_alone : (n : ℕ) (i other : Item) → node_alone (suc n) i other ≡ other
not_alone n (item.Token t) other = refl
not_alone n (item.Node r f t parts) other = ap (λ b. cond b (item.Node r f t parts) other) (ne_eqb (suc n) 0 (λ q. absurd (omega arith)))

named_by : (cells : List Cell) (list row from at before : ℕ) (i : Item) → before < length cells → parts_in cells list ≡ tree_in cells i ∷ parts_in cells before
    → tree_in cells (node_alone before i (item.Node row from at list)) ≡ node_of row from at (turned (parts_in cells list))
named_by cells list row from at zero (item.Token t) lt e = name_token row from at t (parts_in cells list) (e ∙ ap (λ ps. Token t ∷ ps) (no_list cells))
named_by cells list row from at zero (item.Node r f t parts) lt e =
    let alone : parts_in cells list ≡ Node r f t (turned (parts_in cells parts)) ∷ [] = e ∙ ap (λ ps. Node r f t (turned (parts_in cells parts)) ∷ ps) (no_list cells) in
    sym (ap (λ ps. node_of row from at (turned ps)) alone)
named_by cells list row from at (suc n) i lt e =
    let h = some_tree cells n (omega arith) in
    ap (λ x. tree_in cells x) (not_alone n i (item.Node row from at list))
    ∙ name_more row from at (tree_in cells i) h.first h.rest (parts_in cells list) (e ∙ ap (λ ps. tree_in cells i ∷ ps) h.are)

pub named_tree : (cells : List Cell) (list row from at : ℕ) (cell : Cell) → list ≤ length cells → Reads cells list (Some cell)
    → tree_in cells (node_alone cell.before cell.item (item.Node row from at list)) ≡ node_of row from at (turned (parts_in cells list))
named_tree cells list row from at cell le r =
    let e = r.1 in
    let older = r.2.0 in
    named_by cells list row from at cell.before cell.item (omega arith) r.3

pub named_nothing : (cells : List Cell) (list row from at : ℕ) → list ≡ 0 → Node row from at (turned (parts_in cells list)) ≡ node_of row from at (turned (parts_in cells list))
named_nothing cells list row from at e = name_none row from at (parts_in cells list) (ap (λ k. parts_in cells k) e ∙ no_list cells)

within_by : (n m before : ℕ) (i other : Item) → n ≤ m → IsWithin n i → IsWithin m other → IsWithin m (node_alone before i other)
within_by n m before (item.Token t) other le w o = o
within_by n m before (item.Node r f t parts) other le w o = by_test (nat_eq before 0)
  where
    by_test : (b : Bool) → IsWithin m (cond b (item.Node r f t parts) other)
    by_test true = omega arith
    by_test false = o

pub named_within : (cells : List Cell) (list row from at : ℕ) (cell : Cell) → list ≤ length cells → Reads cells list (Some cell) → IsWithin (length cells) (node_alone cell.before cell.item (item.Node row from at list))
named_within cells list row from at cell le r =
    let e = r.1 in
    within_by r.0 (length cells) cell.before cell.item (item.Node row from at list) (omega arith) r.2.1 le
