use Rattle.std.proofs.Common.{◌≡◌}
use Rattle.rl_sequence.proofs.ChildLemmas.{opened}
use Rattle.rl_sequence.proofs.children.open.Goals as goal

pub returns : goal.returns
returns g c =
    let w : c.width-width.result ≡ g.C.Chunk.width c.remove-child.result.chunk.value = cc in
    opened g.C.Chunk.elements g.C.Chunk.is_right g.C.Chunk.width _ _ _ _ _ _ _ _ _ c.deref.ensures.value c.requires.children c.find-place.ensures.child c.remove-child.ensures.value c.remove-child.ensures.items
    c.find-place.ensures.before c.find-place.ensures.inside w c.in_ok-chunk.ensures
