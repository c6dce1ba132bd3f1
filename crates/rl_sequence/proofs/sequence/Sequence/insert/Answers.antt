use Rattle.std.proofs.Common.{◌∙◌, ap}
use Rattle.std.specs.List.{insert}
use Rattle.std.proofs.lemmas.List.{append-nil}
use Rattle.rl_sequence.proofs.WholeLemmas.{inserted_back, inserted_two, whole_first, whole_more}
use Rattle.rl_sequence.proofs.sequence.Sequence.insert.Goals as goal

pub flush-requires : goal.flush-requires
flush-requires g c =
    let held = rw c.in-Some.is at c.in_ok-tail.ensures.holds in
    whole_first _ _ _ c.in-Some.more _ c.args.at c.args.item c.self.invariant c.self.view_is c.if-at-before.false c.requires.within c.requires.small held c.in_ok-tail.ensures.right

pub invariant_of-result-in-Some : goal.invariant_of-result-in-Some
invariant_of-result-in-Some g c =
    let held = rw c.in-Some.is at c.in_ok-tail.ensures.holds in
    let more_right = rw c.in-Some.is at c.in_ok-tail.ensures.more_right in
    whole_more _ _ _ c.in_ok-tail.tail _ _ c.args.at c.args.item c.self.invariant c.self.view_is c.if-at-before.false c.requires.within c.requires.small held more_right
    c.in_ok-body-in-Some.ensures.right c.in_ok-body-in-Some.ensures.holds

pub returns-in-None : goal.returns-in-None
returns-in-None g c =
    let held = rw (c.in-None.is, append-nil c.in_ok-tail.tail.items.items) at c.in_ok-tail.ensures.holds in
    inserted_back _ _ _ _ _ c.args.item c.self.invariant.body_right.count_is c.if-at-before.false held ∙ ap (λ xs. insert xs c.args.at c.args.item) c.self.view_is

pub returns-in_ok-body-in-Some : goal.returns-in_ok-body-in-Some
returns-in_ok-body-in-Some g c =
    let held = rw c.in-Some.is at c.in_ok-tail.ensures.holds in
    inserted_two _ _ c.in_ok-tail.tail.items.items _ _ _ _ c.args.item c.self.invariant.body_right.count_is c.if-at-before.false held c.in_ok-body-in-Some.ensures.holds
    ∙ ap (λ xs. insert xs c.args.at c.args.item) c.self.view_is
