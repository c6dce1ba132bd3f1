use Rattle.std.proofs.Common.{◌≡◌, ◌∙◌, ◌++◌, ◌∷◌, [], ◌||◌, true, false, ap, sym}
use Rattle.std.specs.BTreeSet.{contains}
use Rattle.rl_value.specs.Order.{plain_cmp}
use Rattle.rl_value.specs.Laws.{plain_eq}
use Rattle.rl_collections.specs.Repeats.{is_among}
use Rattle.rl_collections.proofs.RepeatsLemmas.{first_seen, seen_again, is_among-more, was_seen, not_seen, among_still}
use Rattle.rl_collections.proofs.repeats.firsts.Goals as goal
use Rattle.rl_collections.proofs.repeats.firsts.Goals.{then-branch+in_ok-share+in_ok-push, else-branch}

pub loop-item-preserved : goal.loop-item-preserved
loop-item-preserved c =
    let held = contains plain_cmp c.loop-item.seen c.item-item.result in
    let among = is_among c.loop-item.firsts.items c.item-item.result in
    elim c.if-branch.branch [
      | then-branch+in_ok-share+in_ok-push w ↦ (
          let items : c.if-branch.firsts.items ≡ c.loop-item.firsts.items ++ c.item-item.result ∷ [] =
          ap (λ v. v.items) w.firsts-is ∙ w.in_ok-push.ensures.items ∙ ap (λ t. c.loop-item.firsts.items ++ t ∷ []) w.in_ok-share.ensures in
          let new : is_among c.loop-item.firsts.items c.item-item.result ≡ false =
          not_seen c.in_ok-is_new.field-0 held among c.in_ok-is_new.ensures.new (c.loop-item.invariant.seen c.item-item.result) w.if-branch.true in
          record {
            done =
                rw items
                (first_seen c.loop-item.firsts.items c.args.items.now c.loop-item.item-index c.item-item.result c.loop-item-test.true c.item-item.is new
                ∙ c.loop-item.invariant.done);
            seen =
                λ t. c.in_ok-is_new.ensures.seen t
                ∙ ap (λ b. plain_eq c.item-item.result t || b) (c.loop-item.invariant.seen t)
                ∙ is_among-more c.loop-item.firsts.items c.item-item.result t
                ∙ ap (λ xs. is_among xs t) (sym items);
          }
          )
      | else-branch w ↦ (
          let same : c.if-branch.firsts.items ≡ c.loop-item.firsts.items = ap (λ v. v.items) w.firsts-is in
          let old : is_among c.loop-item.firsts.items c.item-item.result ≡ true =
          was_seen c.in_ok-is_new.field-0 held among c.in_ok-is_new.ensures.new (c.loop-item.invariant.seen c.item-item.result) w.if-branch.false in
          record {
            done =
                rw same
                (ap (λ r. c.loop-item.firsts.items ++ r)
                (seen_again c.loop-item.firsts.items c.args.items.now c.loop-item.item-index c.item-item.result c.loop-item-test.true c.item-item.is old)
                ∙ c.loop-item.invariant.done);
            seen =
                λ t. c.in_ok-is_new.ensures.seen t
                ∙ ap (λ b. plain_eq c.item-item.result t || b) (c.loop-item.invariant.seen t)
                ∙ among_still c.loop-item.firsts.items c.item-item.result t old
                ∙ ap (λ xs. is_among xs t) (sym same);
          }
          )
    ]
