use Rattle.std.proofs.Common.{arith, append_assoc}
use Rattle.rl_value.proofs.KidsLemmas.{part_kids_le, size_at, ends_at}
use Rattle.rl_value.proofs.kids.kid_ends.Goals as goal

pub overflow_add-count : goal.overflow_add-count
overflow_add-count c =
    omega (arith, part_kids_le c.part-item.result, size_at c.args.parts.now c.loop-part.part-index c.part-item.result c.loop-part-test.true c.part-item.is)

pub loop-part-preserved : goal.loop-part-preserved
loop-part-preserved c =
    record {
      ends =
          rw (
            c.in_ok-push.ensures.items,
            append_assoc,
            c.given_kids-count.ensures,
            ← ends_at c.loop-part.count c.args.parts.now c.loop-part.part-index c.part-item.result c.loop-part-test.true c.part-item.is,
          )
          c.loop-part.invariant.ends;
      bound = omega (arith, part_kids_le c.part-item.result, size_at c.args.parts.now c.loop-part.part-index c.part-item.result c.loop-part-test.true c.part-item.is);
    }
