use Rattle.std.proofs.Common.{arith}
use Rattle.rl_sequence.proofs.LevelLemmas.{total_step}
use Rattle.rl_sequence.proofs.children.total.Goals as goal

pub overflow_add-count : goal.overflow_add-count
overflow_add-count g c =
    omega (
      arith,
      c.requires.small,
      total_step g.C.Chunk.elements g.C.Chunk.is_right g.C.Chunk.width c.args.children.now c.loop-child.child-index c.loop-child.count c.child-item.result
          c.loop-child-test.true c.child-item.is (c.requires.right c.loop-child.child-index c.child-item.result c.loop-child-test.true) c.loop-child.invariant,
    )
