use Rattle.std.proofs.Common.{◌<◌, length, arith}
use Rattle.rl_sequence.proofs.PartsLemmas.{head_of}
use Rattle.rl_sequence.proofs.ChildLemmas.{joined, last_count, first_count}
use Rattle.rl_sequence.proofs.children.join.Goals as goal

pub push_two-requires-clause-small : goal.push_two-requires-clause-small
push_two-requires-clause-small g c =
    let h : 0 < length c.args.back.items = omega (arith, c.is_empty.ensures, c.if-is_empty.false) in
    omega (
      arith,
      c.requires.small,
      last_count g.C.Chunk.elements g.C.Chunk.is_right g.C.Chunk.width c.args.front.items _ c.in-Some.last c.requires.front c.in-Some.ensures.items,
      first_count g.C.Chunk.elements g.C.Chunk.is_right g.C.Chunk.width c.args.back.items _ c.remove-first.result c.requires.back (head_of _ _ _ h c.remove-first.ensures.value c.remove-first.ensures.items),
    )

pub returns-in_ok-append-in-Some : goal.returns-in_ok-append-in-Some
returns-in_ok-append-in-Some g c =
    let h : 0 < length c.args.back.items = omega (arith, c.is_empty.ensures, c.if-is_empty.false) in
    joined g.C.Chunk.elements g.C.Chunk.is_right g.C.Chunk.width _ _ _ _ _ _ _ _ c.requires.front c.requires.back c.in-Some.ensures.items (head_of _ _ _ h c.remove-first.ensures.value c.remove-first.ensures.items)
    c.in_ok-joined-in-Some.ensures c.in_ok-append-in-Some.ensures.items
