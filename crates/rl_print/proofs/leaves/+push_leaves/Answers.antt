use Rattle.std.proofs.Common.{◌∙◌, arith}
use Rattle.rl_print.proofs.PrintedLemmas.{part_smaller, leaves_at, leaves_end}
use Rattle.std.specs.String.{string_bytes}
use Rattle.rl_value.specs.Readers.{parts_of}
use Rattle.rl_print.proofs.leaves.+push_leaves.Goals as goal

pub push_leaves-requires : goal.push_leaves-requires
push_leaves-requires t c = (omega (arith, part_smaller c.args.part.now c.loop-i.i c.part.result.now c.part.ensures.value), tt)

pub loop-i-preserved : goal.loop-i-preserved
loop-i-preserved t c =
    rw c.in_ok-push_leaves.ensures
    (leaves_at c.args.escapes (parts_of c.args.part.now) (string_bytes c.loop-i.out) c.loop-i.i c.part.result.now c.part.ensures.value ∙ c.loop-i.invariant)

pub returns : goal.returns
returns t c = leaves_end c.args.escapes c.args.part.now (string_bytes c.loop-i.out) (string_bytes c.args.out.now) c.loop-i.i (λ e. let b = rw (c.kind.ensures, e) at c.if-eq.ensures in cc) (omega arith) c.loop-i.invariant
