use Rattle.std.proofs.Common.{◌≤◌, arith}
use Rattle.rl_sequence.proofs.ChildLemmas.{closed_chunk, gap_front, gap_back}
use Rattle.rl_sequence.proofs.children.close.Goals as goal

pub returns-then-width : goal.returns-then-width
returns-then-width g c =
    let w : c.args.width ≤ g.C.Chunk.width c.args.chunk = omega (arith, c.if-width.true, c.width.ensures.value) in
    closed_chunk g.C.Chunk.elements g.C.Chunk.is_right g.C.Chunk.width _ _ _ _ _ _ _ c.requires.gap c.in_ok-chunk.ensures.ok c.requires.right c.len-count.ensures.value c.if-count-gt0.true w c.in_ok-insert.ensures.items

pub rejoin-requires-clause-front : goal.rejoin-requires-clause-front
rejoin-requires-clause-front g c = gap_front g.C.Chunk.elements g.C.Chunk.is_right g.C.Chunk.width c.args.place c.args.width c.args.others.items c.requires.gap

pub rejoin-requires-clause-back : goal.rejoin-requires-clause-back
rejoin-requires-clause-back g c = gap_back g.C.Chunk.elements g.C.Chunk.is_right g.C.Chunk.width c.args.place c.args.width c.args.others.items c.requires.gap
