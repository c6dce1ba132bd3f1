use Rattle.std.proofs.Common.{arith}
use Rattle.rl_sequence.proofs.PartsLemmas.{split_front, split_back}
use Rattle.rl_sequence.proofs.leaf.split.Goals as goal

pub returns-then-at-clause-items : goal.returns-then-at-clause-items
returns-then-at-clause-items g c =
    split_front c.args.items.items _ _ _ 32 c.args.at c.args.item (omega (arith, c.requires.full)) (omega (arith, c.if-at.true)) c.in_ok-back.ensures.items c.in_ok-back.ensures.tail c.in_ok-insert.ensures.items

pub returns-clause-items : goal.returns-clause-items
returns-clause-items g c =
    split_back c.args.items.items _ _ _ 32 c.args.at c.args.item (omega (arith, c.if-at.false)) c.requires.within c.in_ok-back.ensures.items c.in_ok-back.ensures.tail c.in_ok-insert-2.ensures.items
