use Rattle.std.proofs.Common.{◌≡◌, ◌∷◌, length, Some, ap, ◌∙◌, sym, subst, arith}
use Rattle.rl_phrase.specs.Machine.{Calling, Going, Failing}
use Rattle.rl_phrase.specs.Arena.{parts_in}
use Rattle.rl_phrase.specs.State.{frame_in, frames_in, state_in, state_of, after_turn, FramesWithin, Leads}
use Rattle.rl_phrase.specs.Awaits.{IsOnTheWay}
use Rattle.rl_phrase.proofs.OverRows.{past_frame, then_leads}
use Rattle.rl_phrase.proofs.Turned.{one_turn, forgotten, memory_success, memory_failure}
use Rattle.rl_phrase.proofs.machine.Machine.next.Goals as goal

pub returns-in_ok-turn-in-Call : goal.returns-in_ok-turn-in-Call
returns-in_ok-turn-in-Call c =
    let m = c.args.self.now in
    let frames = frames_in m.arena m.frames in
    let parts = parts_in m.arena m.parts in
    let from : state_of m ≡ Calling c.in-Call.row c.in-Call.at frames parts m.far = ap (λ t. state_in t frames parts m.far) c.in-Call.is in
    record {
      list = c.requires.stands.list;
      frames = c.requires.stands.frames;
      within = c.in_ok-turn-in-Call.ensures.within;
      memory = c.requires.stands.memory;
      leads = subst (λ s. Leads c.args.tokens.now c.args.rules.now s (after_turn m.arena c.in_ok-turn-in-Call.turn frames)) (sym from) (c.in_ok-turn-in-Call.ensures.means frames);
    }

pub returns-in_ok-remember_success-in-Succeed : goal.returns-in_ok-remember_success-in-Succeed
returns-in_ok-remember_success-in-Succeed c =
    let tokens = c.args.tokens.now in
    let rules = c.args.rules.now in
    let m = c.args.self.now in
    let at = c.in-Succeed.at in
    let frame = c.in-Some.frame in
    let frames = frames_in m.arena c.pop.new.self in
    let parts = parts_in m.arena m.parts in
    let within = subst (λ fs. FramesWithin (length m.arena) fs) c.in-Some.ensures c.requires.stands.frames in
    let here = Going at (frame_in m.arena frame ∷ frames) parts m.far in
    let from : state_of m ≡ here = ap (λ t. state_in t (frames_in m.arena m.frames) parts m.far) c.in-Succeed.is ∙ ap (λ fs. Going at (frames_in m.arena fs) parts m.far) c.in-Some.ensures in
    record {
      list = c.requires.stands.list;
      frames = within.1;
      within = c.succeed.ensures.within;
      memory =
          memory_success tokens rules m.arena c.forget_before.new.memory c.remember_success.new.memory frame m.parts at m.far frames (forgotten tokens rules m.arena m.memory c.forget_before.new.memory c.requires.stands.memory c.forget_before.ensures)
          (subst (λ s. IsOnTheWay tokens rules s) from c.requires.stands.way) (c.in_ok-remember_success-in-Succeed).ensures;
      leads = subst (λ s. Leads tokens rules s (after_turn m.arena c.succeed.result frames)) (sym from)
          (one_turn tokens rules here (after_turn m.arena c.succeed.result frames) (omega arith) (ap Some (sym (c.succeed.ensures.means frames))));
    }

pub returns-in_ok-remember_failure-in-Fail : goal.returns-in_ok-remember_failure-in-Fail
returns-in_ok-remember_failure-in-Fail c =
    let tokens = c.args.tokens.now in
    let rules = c.args.rules.now in
    let m = c.args.self.now in
    let frame = c.in-Some-pop.frame in
    let frames = frames_in m.arena c.pop-in-Fail.new.self in
    let within = subst (λ fs. FramesWithin (length m.arena) fs) c.in-Some-pop.ensures c.requires.stands.frames in
    let here = Failing (frame_in m.arena frame ∷ frames) m.far in
    let from : state_of m ≡ here = ap (λ t. state_in t (frames_in m.arena m.frames) (parts_in m.arena m.parts) m.far) c.in-Fail.is ∙ ap (λ fs. Failing (frames_in m.arena fs) m.far) c.in-Some-pop.ensures in
    let left = c.pass_over-frame.result.0 in
    let far = c.pass_over-frame.result.1 in
    let after = after_turn m.arena c.fail.result frames in
    let passed = past_frame tokens rules c.args.firsts.now c.requires.no_left_recursion c.requires.firsts m.arena frame m.far left far c.pass_over-frame.ensures.passes frames in
    let fails : Leads tokens rules (Failing (frame_in m.arena left ∷ frames) far) after =
    one_turn tokens rules (Failing (frame_in m.arena left ∷ frames) far) after (omega arith) (ap Some (sym (c.fail.ensures.means m.arena frames))) in
    record {
      list = c.requires.stands.list;
      frames = within.1;
      within = c.fail.ensures.within (length m.arena) (c.pass_over-frame.ensures.within (length m.arena) within.0);
      memory =
          memory_failure tokens rules m.arena m.memory c.remember_failure.new.memory frame m.far frames c.requires.stands.memory
          (subst (λ s. IsOnTheWay tokens rules s) from c.requires.stands.way) (c.in_ok-remember_failure-in-Fail).ensures;
      leads = subst (λ s. Leads tokens rules s after) (sym from) (then_leads tokens rules here (Failing (frame_in m.arena left ∷ frames) far) after passed fails);
    }
