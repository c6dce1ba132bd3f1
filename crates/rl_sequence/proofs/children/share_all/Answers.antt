use Rattle.rl_sequence.proofs.ChildLemmas.{shared_more}
use Rattle.rl_sequence.proofs.children.share_all.Goals as goal

pub loop-child-preserved : goal.loop-child-preserved
loop-child-preserved g c =
    shared_more g.C.Chunk.elements g.C.Chunk.is_right g.C.Chunk.width c.args.children.now c.loop-child.shared.items _ c.loop-child.child-index c.child-item.result _ c.requires c.loop-child-test.true c.child-item.is c.loop-child.invariant
    c.in_ok-clone.ensures.cases c.in_ok-push.ensures.items
