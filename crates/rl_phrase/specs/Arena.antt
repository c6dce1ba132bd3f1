-- What lists of cells are.
use Rattle.std.specs.Prelude.{◌≡◌, ℕ, suc, ◌≤◌, nat_eq, List, [], ◌∷◌, Option, Some, None, length, if◌then◌else◌}
use Rattle.rl_phrase.specs.declared.arena.Item.{Item}
use Rattle.rl_phrase.specs.declared.arena.Item.TheVariants as item
use Rattle.rl_phrase.specs.declared.arena.Cell.{Cell}
use Rattle.rl_phrase.specs.Tree.{Tree, Token, Node}
use Rattle.rl_phrase.specs.Machine.{turned}

-- a tree, where this is what lists are
abbrev pub item_tree : (ℕ → List Tree) → Item → Tree
item_tree lists (item.Token t) = Token t
item_tree lists (item.Node rule from to parts) = Node rule from to (turned (lists parts))

-- The trees of a list, the newest first. The cells, too, are from the newest on.
abbrev pub parts_in : List Cell → ℕ → List Tree
parts_in [] list = []
parts_in (cell ∷ cells) list =
    if nat_eq list (suc (length cells)) then item_tree (parts_in cells) cell.item ∷ parts_in cells cell.before
    else parts_in cells list

abbrev pub tree_in : List Cell → Item → Tree
tree_in cells = item_tree (parts_in cells)

-- a list that is among the first n
abbrev pub IsWithin : ℕ → Item → Type 0
IsWithin n (item.Token t) = Unit {0}
IsWithin n (item.Node rule from to parts) = parts ≤ n

abbrev pub IsOlder : Cell → ℕ → Type 0
IsOlder cell n = (cell.before ≤ n) × IsWithin n cell.item

-- each cell leads to older ones alone
abbrev pub AreOlder : List Cell → Type 0
AreOlder [] = Unit {0}
AreOlder (cell ∷ cells) = IsOlder cell (length cells) × AreOlder cells

-- the last cell of a list, and what is before it
abbrev pub Reads : List Cell → ℕ → Option Cell → Type 0
Reads cells list None = list ≡ 0
Reads cells list (Some cell) = (n : ℕ) × (list ≡ suc n) × IsOlder cell n × (parts_in cells list ≡ tree_in cells cell.item ∷ parts_in cells cell.before)

-- a node that nothing is before, or else the other
abbrev pub node_alone : ℕ → Item → Item → Item
node_alone before (item.Token t) other = other
node_alone before (item.Node rule from to parts) other = if nat_eq before 0 then item.Node rule from to parts else other
