use Rattle.std.proofs.Common.{sym}
use Rattle.std.proofs.lemmas.List.Folds.{list_any_at}
use Rattle.std.proofs.lemmas.Bool.{and_from, le-leb}
use Rattle.rl_productions.specs.Symbol.{is_in_range}
use Rattle.rl_productions.proofs.symbol.is_listed.Goals as goal

pub returns-then-c-last : goal.returns-then-c-last
returns-then-c-last c =
    sym (list_any_at (is_in_range c.args.c) c.args.ranges.now c.loop-first.first-index (0, 0) c.loop-first-test.true
    (and_from _ _ (le-leb _ _ c.if-first-c.true) (le-leb _ _ c.if-c-last.true)))
