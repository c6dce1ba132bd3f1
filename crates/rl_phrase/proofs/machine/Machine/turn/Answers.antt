use Rattle.std.proofs.Common.{suc, length, sym, subst}
use Rattle.std.specs.List.{All}
use Rattle.rl_phrase.specs.State.{state_of, frames_in, after_turn, IsRight, Leads}
use Rattle.rl_phrase.specs.Awaits.{IsOnTheWay}
use Rattle.rl_phrase.specs.Stands.{IsPrepared}
use Rattle.rl_phrase.proofs.Grows.{memory_stays}
use Rattle.rl_phrase.proofs.OverRows.{leads_then}
use Rattle.rl_phrase.proofs.Ways.{way_path}
use Rattle.rl_phrase.proofs.machine.Machine.turn.Goals as goal

pub returns-in_ok-take-in-Some-clause-stands : goal.returns-in_ok-take-in-Some-clause-stands
returns-in_ok-take-in-Some-clause-stands c =
    let tokens = c.args.tokens.now in
    let rules = c.args.rules.now in
    let old = c.args.self.now in
    let ready = c.next.new.self in
    let new = c.take.new.self in
    let turn = c.in-Some.turn in
    let is = subst (λ o. IsPrepared tokens rules old ready o) c.in-Some.is c.in_ok-next.ensures in
    let took = c.in_ok-take-in-Some.ensures in
    let frames = frames_in ready.arena ready.frames in
    let there = after_turn ready.arena turn frames in
    let after = after_turn ready.arena c.straight_on.result frames in
    let leads = leads_then tokens rules (state_of old) there after is.leads (c.straight_on.ensures.means tokens rules ready.arena frames) in
    record {
      list = took.list;
      frames = took.frames;
      memory = memory_stays ready.arena new.arena took.arena tokens rules new.memory (subst (λ ms. All (IsRight tokens rules ready.arena) ms) (sym took.memory) is.memory);
      way = subst (λ s. IsOnTheWay tokens rules s) (sym took.state) (way_path tokens rules c.requires.no_left_recursion (suc leads.0) 0 (state_of old) after leads.1 c.requires.stands.way);
    }

pub take-requires-clause-turn : goal.take-requires-clause-turn
take-requires-clause-turn c =
    let ready = c.next.new.self in
    let is = subst (λ o. IsPrepared c.args.tokens.now c.args.rules.now c.args.self.now ready o) c.in-Some.is c.in_ok-next.ensures in
    c.straight_on.ensures.within (length ready.arena) is.within

pub returns-in_ok-take-in-Some-clause-turned : goal.returns-in_ok-take-in-Some-clause-turned
returns-in_ok-take-in-Some-clause-turned c =
    let tokens = c.args.tokens.now in
    let rules = c.args.rules.now in
    let old = c.args.self.now in
    let ready = c.next.new.self in
    let turn = c.in-Some.turn in
    let is = subst (λ o. IsPrepared tokens rules old ready o) c.in-Some.is c.in_ok-next.ensures in
    let frames = frames_in ready.arena ready.frames in
    let there = after_turn ready.arena turn frames in
    let after = after_turn ready.arena c.straight_on.result frames in
    subst (λ s. Leads tokens rules (state_of old) s) (sym c.in_ok-take-in-Some.ensures.state)
    (leads_then tokens rules (state_of old) there after is.leads (c.straight_on.ensures.means tokens rules ready.arena frames))
