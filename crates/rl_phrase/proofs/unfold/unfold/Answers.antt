use Rattle.std.proofs.Common.{◌≡◌, ◌<◌, ◌++◌, sym, subst}
use Rattle.rl_phrase.specs.Arena.{parts_in}
use Rattle.rl_phrase.proofs.Unfolds.{back_steps, pending, work, AreWithin, unfolds, less_work}
use Rattle.rl_phrase.proofs.unfold.unfold.Goals as goal

pub lists-smaller : goal.lists-smaller
lists-smaller c =
    subst (λ ls. work c.args.arena.now c.unfold_list.new.lists < work c.args.arena.now ls) (sym c.in-Some.ensures)
    (less_work c.args.arena.now c.in-Some.next c.pop.new.self c.lists.steps.items c.unfold_list.new.steps.items c.unfold_list.new.lists c.in_ok-unfold_list.ensures)

pub lists-preserved : goal.lists-preserved
lists-preserved c =
    let cells = c.args.arena.now in
    let all = back_steps (parts_in cells c.args.list) in
    let within = subst (λ ls. AreWithin cells ls) c.in-Some.ensures c.lists.invariant.within in
    let steps = subst (λ ls. c.lists.steps.items ++ pending cells ls ≡ all) c.in-Some.ensures c.lists.invariant.steps in
    let u = unfolds cells c.in-Some.next c.pop.new.self c.lists.steps.items all c.unfold_list.new.steps.items c.unfold_list.new.lists within steps c.in_ok-unfold_list.ensures in
    record { within = u.0; steps = u.1 }
