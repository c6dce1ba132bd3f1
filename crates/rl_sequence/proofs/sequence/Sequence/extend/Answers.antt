use Rattle.std.proofs.Common.{length-append, arith}
use Rattle.rl_sequence.proofs.WholeLemmas.{room}
use Rattle.rl_sequence.proofs.sequence.Sequence.extend.Goals as goal

pub push-requires : goal.push-requires
push-requires g c = room _ _ _ _ _ 4294967296 c.loop-item.invariant c.in-Some.ensures.steps.0 (omega (arith, c.requires, length-append c.args.self c.args.items.items))
