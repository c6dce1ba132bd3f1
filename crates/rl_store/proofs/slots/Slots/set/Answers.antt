use Rattle.std.proofs.Common.{ap, ◌∙◌, cond, ◌==◌}
use Rattle.rl_store.specs.Rooms.{Variables, has_room, last_note_in}
use Rattle.rl_store.specs.Scope.{changed}
use Rattle.rl_store.proofs.SlotsLemmas.{values-insert, last_notes-insert, has_room-known, was_known}
use Rattle.rl_store.proofs.slots.Slots.set.Goals as goal

pub unreachable-requires : goal.unreachable-requires
unreachable-requires c =
    has_room-known c.self.inside.slots c.args.variable (ap (λ (s : Variables). has_room s.room c.args.variable) c.self.view_is ∙ c.requires) c.in-Err.ensures.absent

pub returns-clause-scope : goal.returns-clause-scope
returns-clause-scope c =
    values-insert c.self.inside.slots c.insert.new.self _ _ c.in-Ok.ensures.updates
    ∙ ap (λ (s : Variables). changed s.scope c.args.variable c.args.value) c.self.view_is

pub returns-clause-room : goal.returns-clause-room
returns-clause-room c =
    c.in-Ok.ensures.keys_stay (was_known c.self.inside.slots c.args.variable _ (ap (λ (s : Variables). has_room s.room c.args.variable) c.self.view_is ∙ c.requires) c.in-Ok.ensures.old)
    ∙ ap (λ (s : Variables). s.room) c.self.view_is

pub returns-clause-last_notes : goal.returns-clause-last_notes
returns-clause-last_notes c = λ q.
    last_notes-insert c.self.inside.slots c.insert.new.self _ _ c.in-Ok.ensures.updates q
    ∙ ap (λ (s : Variables). cond (c.args.variable == q) c.args.last_note (last_note_in s.last_notes q)) c.self.view_is
