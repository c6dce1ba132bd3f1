use Rattle.std.proofs.Common.{◌≡◌, ap, length, subst, sym, arith, rules}
use Rattle.rl_base.specs.Lines.{line_starts, Rises}
use Rattle.rl_base.proofs.LinesLemmas.{line_starts_rise, length-line_starts}
use Rattle.rl_base.proofs.text.Chars.new.Goals as goal
use Rattle.rl_base.proofs.text.Chars.new.Goals.{After-deref-2}

starts_are : (c : After-deref-2) → c.deref-2.result.now ≡ line_starts 0 c.args.items.items
starts_are c = search rules

pub counts-requires-clause-rises : goal.counts-requires-clause-rises
counts-requires-clause-rises c = subst Rises (sym (starts_are (goal.at.counts-requires-clause-rises c).After-deref-2)) (line_starts_rise c.args.items.items 0)

pub counts-requires-clause-few : goal.counts-requires-clause-few
counts-requires-clause-few c =
    let same = ap length (starts_are (goal.at.counts-requires-clause-few c).After-deref-2) in
    let few = length-line_starts c.args.items.items 0 in
    let limit = c.requires in
    omega arith
