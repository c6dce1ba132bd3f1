use Rattle.std.proofs.Common.{◌≡◌, length, ap, ◌∙◌, sym, subst}
use Rattle.rl_phrase.specs.State.{state_in, frames_in, with_some, FramesWithin}
use Rattle.rl_phrase.specs.Arena.{parts_in}
use Rattle.rl_phrase.proofs.Grows.{taken, all_within, frames_within}
use Rattle.rl_phrase.proofs.machine.Machine.take.Goals as goal

pub returns-clause-state : goal.returns-clause-state
returns-clause-state c =
    let old = c.args.self.now.arena in
    let new = c.build.new.arena in
    let t = c.args.turn in
    let fs = c.args.self.now.frames in
    let list = c.in_ok-self.field-0 in
    let e : c.push_some-2.new.frames ≡ with_some t.top (with_some t.under fs) = c.in_ok-push_some-2.ensures ∙ ap (λ xs. with_some t.top xs) c.in_ok-push_some.ensures in
    ap (λ xs. state_in t.task (frames_in new xs) (parts_in new list) t.far) e
    ∙ taken old new c.in_ok-self.ensures.extends t.task t.under t.top t.built t.far list fs c.requires.turn.0 c.requires.turn.1 c.requires.frames c.in_ok-self.ensures.means

pub returns-clause-frames : goal.returns-clause-frames
returns-clause-frames c =
    let old = c.args.self.now.arena in
    let new = c.build.new.arena in
    let t = c.args.turn in
    let fs = c.args.self.now.frames in
    let e : c.push_some-2.new.frames ≡ with_some t.top (with_some t.under fs) = c.in_ok-push_some-2.ensures ∙ ap (λ xs. with_some t.top xs) c.in_ok-push_some.ensures in
    subst (λ xs. FramesWithin (length new) xs) (sym e)
    (frames_within old new c.in_ok-self.ensures.extends (with_some t.top (with_some t.under fs)) (all_within (length old) t.under t.top fs c.requires.turn.0 c.requires.turn.1 c.requires.frames))
