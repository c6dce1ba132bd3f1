use Rattle.std.proofs.Common.{arith}
use Rattle.rl_sequence.proofs.LevelLemmas.{halves, halves_length, halved_front, halved_back}
use Rattle.rl_sequence.proofs.level.Level.halve.Goals as goal

pub total-behind-requires-clause-small : goal.total-behind-requires-clause-small
total-behind-requires-clause-small g c =
    omega (arith, c.requires.right.small, c.requires.right.count_is, halves_length g.C.Chunk.elements g.C.Chunk.is_right g.C.Chunk.width c.args.self.children.items _ _ _ 32 c.in_ok-more.ensures.items c.in_ok-more.ensures.tail c.deref.ensures.value)

pub overflow_sub-count : goal.overflow_sub-count
overflow_sub-count g c =
    omega (arith, c.requires.right.count_is, c.total-behind.ensures, halves_length g.C.Chunk.elements g.C.Chunk.is_right g.C.Chunk.width c.args.self.children.items _ _ _ 32 c.in_ok-more.ensures.items c.in_ok-more.ensures.tail c.deref.ensures.value)

pub returns : goal.returns
returns g c = record {
  right = record { level = halved_front g.C.Chunk.elements g.C.Chunk.is_right g.C.Chunk.width _ _ c.args.self.children.items _ _ _ c.requires.right c.in_ok-more.ensures.items c.in_ok-more.ensures.tail c.deref.ensures.value c.total-behind.ensures; few = omega (arith, c.in_ok-more.ensures.len) };
  more_right = record { level = halved_back g.C.Chunk.elements g.C.Chunk.is_right g.C.Chunk.width _ _ c.args.self.children.items _ _ _ c.requires.right c.in_ok-more.ensures.items c.in_ok-more.ensures.tail c.deref.ensures.value c.total-behind.ensures; few = omega (arith, c.requires.few, c.in_ok-more.ensures.tail_len) };
  holds = halves g.C.Chunk.elements g.C.Chunk.is_right g.C.Chunk.width c.args.self.children.items _ _ 32 c.in_ok-more.ensures.items c.in_ok-more.ensures.tail;
}
