use Rattle.std.proofs.Common.{length, ap, ◌∙◌, sym, subst}
use Rattle.rl_phrase.specs.Arena.{tree_in, IsWithin}
use Rattle.rl_phrase.proofs.Cells.{named_tree, named_nothing, named_within}
use Rattle.rl_phrase.proofs.machine.name.Goals as goal

pub returns-in-Some-clause-means : goal.returns-in-Some-clause-means
returns-in-Some-clause-means c =
    ap (λ x. tree_in c.args.arena.now x) c.lone_or.ensures
    ∙ named_tree c.args.arena.now c.args.parts c.args.row c.args.from c.args.at c.in-Some.cell c.requires c.in-Some.ensures

pub returns-in-Some-clause-within : goal.returns-in-Some-clause-within
returns-in-Some-clause-within c =
    subst (λ x. IsWithin (length c.args.arena.now) x) (sym c.lone_or.ensures)
    (named_within c.args.arena.now c.args.parts c.args.row c.args.from c.args.at c.in-Some.cell c.requires c.in-Some.ensures)

pub returns-in-None-clause-means : goal.returns-in-None-clause-means
returns-in-None-clause-means c = named_nothing c.args.arena.now c.args.parts c.args.row c.args.from c.args.at c.in-None.ensures
