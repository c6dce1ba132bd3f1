-- A phrase as a tree.
use Rattle.std.specs.Prelude.{List, [], ◌∷◌, map}
use Rattle.rl_phrase.specs.declared.tree.Part.{Part}
use Rattle.rl_phrase.specs.declared.tree.Part.TheOpen as open_part
use Rattle.rl_phrase.specs.declared.tree.Part.TheOpen.{Part-F, Phrase-F}
use Rattle.rl_phrase.specs.declared.tree.Part.TheFolds.{fold-Part, fold-Phrase}
use Rattle.rl_phrase.specs.declared.tree.Phrase.{Phrase}
use Rattle.rl_phrase.specs.Tree.{Tree, Trees, Token, Node, none, more}

abbrev pub list_trees : List Tree → Trees
list_trees [] = none
list_trees (t ∷ ts) = more t (list_trees ts)

-- a phrase and a part, with trees in place of what is below
abbrev pub phrase_step : Phrase-F Tree Tree → Tree
phrase_step p = Node p.rule p.from p.to (list_trees p.parts.items)

abbrev pub part_step : Part-F Tree Tree → Tree
part_step (open_part.Token n) = Token n
part_step (open_part.Node t) = t

-- without where they lie in memory
abbrev pub tree_of : Part → Tree
tree_of = fold-Part Tree Tree part_step phrase_step

abbrev pub view : Phrase → Tree
view = fold-Phrase Tree Tree part_step phrase_step

abbrev pub trees_of : List Part → Trees
trees_of parts = list_trees (map tree_of parts)
