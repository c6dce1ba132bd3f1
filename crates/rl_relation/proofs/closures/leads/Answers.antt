use Rattle.std.proofs.Common.{◌≡◌, ◌<◌, [], length, get_or, sym, subst, ◌∙◌, arith}
use Rattle.rl_value.specs.Rising.{In}
use Rattle.rl_access.specs.Rows.{rests}
use Rattle.rl_relation.specs.Closures.{GrowsBy}
use Rattle.rl_relation.proofs.PathLemmas.{walks_start, walks_on, walks_whole}
use Rattle.rl_relation.proofs.closures.leads.Goals as goal

pub loop-next-init : goal.loop-next-init
loop-next-init c =
    let e : c.deref.result.now ≡ rests c.args.start.now c.args.pairs.now = c.deref.ensures.value ∙ c.in_ok-first.ensures in
    record {
      covered = c.in_ok-add_all.ensures.covered;
      walks = walks_start c.args.pairs.now c.args.start.now c.add_all.new.found.items
          (subst (λ vs. GrowsBy vs [] c.add_all.new.found.items) e
          (subst (λ old. GrowsBy c.deref.result.now old c.add_all.new.found.items) c.new-found.ensures.items c.in_ok-add_all.ensures.grown))
          (λ z k. c.in_ok-add_all.ensures.has z (subst (In z) (sym e) k));
    }

pub loop-next-preserved : goal.loop-next-preserved
loop-next-preserved c =
    let e : c.deref-in-loop-next.result.now ≡ rests c.index.result.now c.args.pairs.now = c.deref-in-loop-next.ensures.value ∙ c.in_ok-ends.ensures in
    let below : c.loop-next.next < length c.loop-next.found.items = omega arith in
    let at : c.index.result.now ≡ get_or c.loop-next.found.items c.loop-next.next c.index.result.now = c.index.ensures in
    record {
      covered = c.in_ok-add_all-2.ensures.covered;
      walks = walks_on c.args.pairs.now c.args.start.now c.index.result.now c.loop-next.found.items c.add_all-in-loop-next.new.found.items c.loop-next.next below at
          c.loop-next.invariant.walks
          (subst (λ vs. GrowsBy vs c.loop-next.found.items c.add_all-in-loop-next.new.found.items) e c.in_ok-add_all-2.ensures.grown)
          (λ z k. c.in_ok-add_all-2.ensures.has z (subst (In z) (sym e) k));
    }

pub returns-then-next-len-clause-whole : goal.returns-then-next-len-clause-whole
returns-then-next-len-clause-whole c =
    walks_whole c.args.pairs.now c.args.start.now c.loop-next.found.items c.loop-next.next (omega arith) c.loop-next.invariant.walks

pub returns-clause-whole : goal.returns-clause-whole
returns-clause-whole c =
    walks_whole c.args.pairs.now c.args.start.now c.loop-next.found.items c.loop-next.next (omega arith) c.loop-next.invariant.walks
