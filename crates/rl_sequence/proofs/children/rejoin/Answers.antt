use Rattle.std.proofs.Common.{arith}
use Rattle.rl_sequence.proofs.ChildLemmas.{front_small, rejoin_small}
use Rattle.rl_sequence.proofs.children.rejoin.Goals as goal

pub join-requires-clause-small : goal.join-requires-clause-small
join-requires-clause-small g c = omega (arith, c.requires.small, front_small g.C.Chunk.elements g.C.Chunk.is_right g.C.Chunk.width c.args.others.items _ c.args.place c.in_ok-back.ensures.items)

pub join-requires-2-clause-small : goal.join-requires-2-clause-small
join-requires-2-clause-small g c =
    omega (arith, c.requires.small, rejoin_small g.C.Chunk.elements g.C.Chunk.is_right g.C.Chunk.width c.args.others.items _ _ _ _ c.args.place c.in_ok-back.ensures.items c.in_ok-back.ensures.tail c.in_ok-front.ensures)
