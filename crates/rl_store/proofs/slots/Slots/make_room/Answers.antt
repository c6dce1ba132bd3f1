use Rattle.std.proofs.Common.{refl, sym, ap, ◌∙◌}
use Rattle.rl_store.specs.Rooms.{Variables, has_room, last_note_in}
use Rattle.rl_store.proofs.SlotsLemmas.{values-room, last_notes-room, has_room-insert, has_room-stays, has_room-get}
use Rattle.rl_store.proofs.slots.Slots.make_room.Goals as goal

pub returns-clause-scope : goal.returns-clause-scope
returns-clause-scope c =
    values-room c.self.inside.slots c.insert.new.self _ _ c.in_ok-insert.ensures.updates refl
    (sym (has_room-get c.self.inside.slots c.args.variable) ∙ ap (λ (s : Variables). has_room s.room c.args.variable) c.self.view_is ∙ c.requires)
    ∙ ap (λ (s : Variables). s.scope) c.self.view_is

pub returns-clause-room : goal.returns-clause-room
returns-clause-room c = has_room-insert c.self.inside.slots c.insert.new.self _ _ c.in_ok-insert.ensures.updates

pub returns-clause-stays : goal.returns-clause-stays
returns-clause-stays c = λ q h.
    has_room-stays c.self.inside.slots c.insert.new.self _ _ c.in_ok-insert.ensures.updates q (ap (λ (s : Variables). has_room s.room q) c.self.view_is ∙ h)

pub returns-clause-last_notes : goal.returns-clause-last_notes
returns-clause-last_notes c = λ q.
    last_notes-room c.self.inside.slots c.insert.new.self _ _ c.in_ok-insert.ensures.updates refl
    (sym (has_room-get c.self.inside.slots c.args.variable) ∙ ap (λ (s : Variables). has_room s.room c.args.variable) c.self.view_is ∙ c.requires) q
    ∙ ap (λ (s : Variables). last_note_in s.last_notes q) c.self.view_is
