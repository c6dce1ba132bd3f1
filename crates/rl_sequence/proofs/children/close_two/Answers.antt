use Rattle.rl_sequence.proofs.ChildLemmas.{gap_front, gap_back}
use Rattle.rl_sequence.proofs.children.close_two.Goals as goal

pub rejoin-requires-clause-front : goal.rejoin-requires-clause-front
rejoin-requires-clause-front g c = gap_front g.C.Chunk.elements g.C.Chunk.is_right g.C.Chunk.width c.args.place c.args.width c.args.others.items c.requires.gap

pub rejoin-requires-clause-back : goal.rejoin-requires-clause-back
rejoin-requires-clause-back g c = gap_back g.C.Chunk.elements g.C.Chunk.is_right g.C.Chunk.width c.args.place c.args.width c.args.others.items c.requires.gap
