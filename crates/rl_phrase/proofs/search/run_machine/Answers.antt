use Rattle.std.proofs.Common.{◌≡◌, None, ◌∙◌, sym, subst, ap, arith}
use Rattle.std.proofs.lemmas.List.Elements.{All-nil}
use Rattle.rl_phrase.specs.Steps.{steps_of}
use Rattle.rl_phrase.specs.Machine.{turned, Going, turn}
use Rattle.rl_phrase.specs.Arena.{parts_in}
use Rattle.rl_phrase.specs.State.{state_of, state_in, frames_in}
use Rattle.rl_phrase.specs.Stands.{HasTurned}
use Rattle.rl_phrase.proofs.Follows.{turned-onto}
use Rattle.rl_phrase.proofs.Runs.{Ends, start_ends, ends_leads, less_leads, found}
use Rattle.rl_phrase.proofs.search.run_machine.Goals as goal

pub turns-init : goal.turns-init
turns-init c =
    rw (c.new.ensures, c.new-2.ensures, c.new-3.ensures) (record {
      stands = record { list = omega arith; frames = tt; memory = All-nil _; way = tt };
      ends = start_ends c.args.tokens.now c.args.rules.now c.requires c.args.start;
    })

pub turns-smaller : goal.turns-smaller
turns-smaller c =
    less_leads c.args.tokens.now c.args.rules.now c.args.start (state_of c.turns.machine) (state_of c.turn.new.self)
    (subst (λ b. HasTurned c.args.tokens.now c.args.rules.now c.turns.machine c.turn.new.self b) c.if-branch.true c.in_ok-turn.ensures.turned) c.turns.invariant.ends

pub turns-preserved : goal.turns-preserved
turns-preserved c =
    record {
      stands = c.in_ok-turn.ensures.stands;
      ends =
          ends_leads c.args.tokens.now c.args.rules.now c.args.start (state_of c.turns.machine) (state_of c.turn.new.self)
          (subst (λ b. HasTurned c.args.tokens.now c.args.rules.now c.turns.machine c.turn.new.self b) c.if-branch.true c.in_ok-turn.ensures.turned) c.turns.invariant.ends;
    }

pub returns-in-Succeed : goal.returns-in-Succeed
returns-in-Succeed c =
    let tokens = c.args.tokens.now in
    let rules = c.args.rules.now in
    let m = c.turn.new.self in
    let old = c.turns.machine in
    let frames = frames_in m.arena m.frames in
    let parts = parts_in m.arena m.parts in
    let last = subst (λ b. HasTurned tokens rules old m b) c.if-branch.false c.in_ok-turn.ensures.turned in
    let is : state_of old ≡ Going c.in-Succeed.at frames parts m.far = sym last.1 ∙ ap (λ t. state_in t frames parts m.far) c.in-Succeed.is in
    let f = found tokens rules c.args.start c.in-Succeed.at m.far frames parts (subst (λ s. turn tokens rules s ≡ None) is last.0) (subst (λ s. Ends tokens rules c.args.start s) is c.turns.invariant.ends) in
    (f.trees, f.far, f.means, c.in_ok-steps-in-Succeed.ensures ∙ ap (λ ps. steps_of (turned ps)) f.are ∙ ap steps_of (turned-onto f.trees))
