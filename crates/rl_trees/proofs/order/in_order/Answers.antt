use Rattle.std.proofs.Common.{[], ◌∷◌, ◌+◌, ◌∙◌, ap, sym, length-append}
use Rattle.rl_trees.specs.Order.{put}
use Rattle.rl_trees.proofs.OrderLemmas.{inserted_is_put, inserted_below, put_more}
use Rattle.rl_trees.proofs.order.in_order.Goals as goal

pub loop-span-preserved : goal.loop-span-preserved
loop-span-preserved c =
    record {
      place = ap (λ n. n + 1) c.loop-span.invariant.place ∙ sym (length-append c.loop-span.yielded (c.in-Some.span ∷ []));
      below = rw c.in_ok-insert.ensures (inserted_below c.loop-span.ordered.entries c.loop-span.place c.in-Some.span c.loop-span.invariant.below);
      same =
          rw c.in_ok-insert.ensures
          (inserted_is_put c.loop-span.ordered.entries c.loop-span.place c.in-Some.span c.loop-span.invariant.below
          ∙ ap (put c.in-Some.span) c.loop-span.invariant.same
          ∙ sym (put_more [] c.loop-span.yielded c.in-Some.span));
    }
