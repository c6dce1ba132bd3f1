use Rattle.std.proofs.Common.{◌≡◌, ◌+◌, ◌<◌, arith}
use Rattle.rl_sequence.proofs.ChildLemmas.{meets_one, meets_two}
use Rattle.rl_sequence.proofs.children.push_two.Goals as goal

pub returns-then-width-le-LIMIT : goal.returns-then-width-le-LIMIT
returns-then-width-le-LIMIT g c =
    meets_one g.C.Chunk.elements g.C.Chunk.is_right g.C.Chunk.width _ _ _ _ _ c.in_ok-one.ensures.right c.in_ok-one.ensures.merges c.in_ok-push.ensures.items

pub returns : goal.returns
returns g c =
    let a : c.width.result ≡ g.C.Chunk.width c.args.last.chunk.value = cc in
    let b : c.width-2.result ≡ g.C.Chunk.width c.args.first.chunk.value = cc in
    let h : 64 < g.C.Chunk.width c.args.last.chunk.value + g.C.Chunk.width c.args.first.chunk.value = omega arith in
    meets_two g.C.Chunk.elements g.C.Chunk.is_right g.C.Chunk.width _ _ _ _ _ c.requires.last c.requires.first h c.in_ok-push-2.ensures.items c.in_ok-push-3.ensures.items
