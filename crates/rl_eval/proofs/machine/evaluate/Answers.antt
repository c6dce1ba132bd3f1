use Rattle.std.proofs.Common.{rules, arith}
use Rattle.std.proofs.lemmas.List.{nil_from_length}
use Rattle.rl_eval.proofs.Whole.{on_err-always, none_left, started, entry_cut, member_cut, done, so_far, front_of, entering, beginning, resuming, putting}
use Rattle.rl_eval.proofs.machine.evaluate.Goals as goal

pub steps-init : goal.steps-init
steps-init g c = record { stands = started _ _ _ _ c.requires; counted = omega arith }

pub returns-then-not-take-clause-ok : goal.returns-then-not-take-clause-ok
returns-then-not-take-clause-ok g c =
    entry_cut _ _ _ _ _ _ _ _ c.steps.invariant.stands c.in-Enter.is (none_left _ c.if-not-take.ensures.given.1) c.if-not-take.ensures.empty

pub returns-in_err-next-in-Enter-clause-err : goal.returns-in_err-next-in-Enter-clause-err
returns-in_err-next-in-Enter-clause-err g c = on_err-always c.from_residual.result (so_far _ _ _ _ _ _ c.steps.invariant.stands)

pub steps-preserved-in-Enter : goal.steps-preserved-in-Enter
steps-preserved-in-Enter g c = record {
  stands = entering _ _ _ _ _ _ _ _ _ _ c.steps.invariant.stands c.in-Enter.is c.if-not-take.ensures.taken c.in_ok-next-in-Enter.ensures;
  counted = c.steps.invariant.counted;
}

pub returns-then-not-take-2-clause-ok : goal.returns-then-not-take-2-clause-ok
returns-then-not-take-2-clause-ok g c =
    member_cut _ _ _ _ _ _ _ _ c.steps.invariant.stands c.in-Take.is (none_left _ c.if-not-take-2.ensures.given.1) c.if-not-take-2.ensures.empty

pub returns-in_err-next-in-Take-clause-err : goal.returns-in_err-next-in-Take-clause-err
returns-in_err-next-in-Take-clause-err g c = on_err-always c.from_residual-in_err-next-in-Take.result (so_far _ _ _ _ _ _ c.steps.invariant.stands)

pub steps-preserved-in-Take : goal.steps-preserved-in-Take
steps-preserved-in-Take g c = record {
  stands = beginning _ _ _ _ _ _ _ _ _ _ c.steps.invariant.stands c.in-Take.is c.if-not-take-2.ensures.taken c.in_ok-next-in-Take.ensures;
  counted = c.steps.invariant.counted;
}

pub returns-in-None-clause-ok : goal.returns-in-None-clause-ok
returns-in-None-clause-ok g c = done _ _ _ _ _ _ _ c.steps.invariant.stands c.in-Leave.is (search (rules, nil_from_length))

pub returns-in_err-next-in-Some-clause-err : goal.returns-in_err-next-in-Some-clause-err
returns-in_err-next-in-Some-clause-err g c = on_err-always c.from_residual-in_err-next-in-Some.result (so_far _ _ _ _ _ _ c.steps.invariant.stands)

pub steps-preserved-in-Some : goal.steps-preserved-in-Some
steps-preserved-in-Some g c = record {
  stands = resuming _ _ _ _ _ _ _ _ _ _ _ c.steps.invariant.stands c.in-Leave.is c.in-Some.ensures.items c.in_ok-next-in-Some.ensures;
  counted = c.steps.invariant.counted;
}

pub returns-in_err-put-in-Put-clause-err : goal.returns-in_err-put-in-Put-clause-err
returns-in_err-put-in-Put-clause-err g c =
    on_err-always c.from_residual-in_err-put-in-Put.result (front_of _ _ _ _ _ c.in-Put.piece _ _ _ c.steps.invariant.stands c.in-Put.is (rw c.as_slice.ensures at c.in_err-put-in-Put.ensures.err))

pub steps-preserved : goal.steps-preserved
steps-preserved g c = record {
  stands = putting _ _ _ _ _ c.in-Put.piece _ _ _ c.steps.invariant.stands c.in-Put.is (rw c.as_slice.ensures at c.in_ok-put-in-Put.ensures.ok);
  counted = omega (arith, c.in_ok-put-in-Put.ensures.counted);
}
