use Rattle.std.proofs.Common.{◌≡◌, arith}
use Rattle.rl_trees.proofs.WalkLemmas.{count_before, size_before}
use Rattle.rl_trees.proofs.walk.+walk.Goals as goal

pub walk_back_all-walk_back-requires : goal.walk_back_all-walk_back-requires
walk_back_all-walk_back-requires t c = (
  omega (arith, size_before c.args.parts.now c.loop-left.left c.index-parts-left.result c.loop-left-test.true c.loop-left.invariant.within c.index-parts-left.is),
  omega (arith, count_before c.args.parts.now c.loop-left.left c.index-parts-left.result c.loop-left-test.true c.loop-left.invariant.within c.index-parts-left.is),
)

pub walk_back_all-returns-clause-start : goal.walk_back_all-returns-clause-start
walk_back_all-returns-clause-start t c =
    let none : c.loop-left.left ≡ 0 = omega arith in rw none at c.loop-left.invariant.start

pub walk_back_all-returns-clause-found : goal.walk_back_all-returns-clause-found
walk_back_all-returns-clause-found t c =
    let none : c.loop-left.left ≡ 0 = omega arith in rw none at c.loop-left.invariant.found
