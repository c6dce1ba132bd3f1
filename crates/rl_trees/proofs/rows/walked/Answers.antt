use Rattle.std.proofs.Common.{◌≡◌, ◌++◌, ◌∙◌, ap, reverse, arith}
use Rattle.std.proofs.lemmas.List.{reverse-reverse}
use Rattle.rl_trees.specs.Walk.{walk}
use Rattle.rl_trees.proofs.rows.walked.Goals as goal

pub returns : goal.returns
returns c =
    let first : c.in_ok-walk_back.field-0 ≡ 0 = omega (arith, c.in_ok-walk_back.ensures.start) in
    let found : c.walk_back.new.found.items ≡ reverse (walk c.args.sort.now 0 c.args.whole.now) =
    c.in_ok-walk_back.ensures.found
    ∙ ap (λ fs. fs ++ reverse (walk c.args.sort.now c.in_ok-walk_back.field-0 c.args.whole.now)) c.new-found.ensures.items
    ∙ ap (λ s. reverse (walk c.args.sort.now s c.args.whole.now)) first in
    c.reverse.ensures.items ∙ ap reverse found ∙ reverse-reverse (walk c.args.sort.now 0 c.args.whole.now)
