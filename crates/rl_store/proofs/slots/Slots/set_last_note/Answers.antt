use Rattle.std.proofs.Common.{refl, sym, ap, ◌∙◌, cond, ◌==◌}
use Rattle.rl_store.specs.Rooms.{Variables, has_room, last_note_in}
use Rattle.rl_store.specs.declared.slots.Slot.{Slot}
use Rattle.rl_store.proofs.SlotsLemmas.{values-same, last_notes-insert, has_room-known, is_known}
use Rattle.rl_store.proofs.slots.Slots.set_last_note.Goals as goal

pub unreachable-requires : goal.unreachable-requires
unreachable-requires c =
    has_room-known c.self.inside.slots c.args.variable (ap (λ (s : Variables). has_room s.room c.args.variable) c.self.view_is ∙ c.requires) (sym c.in-None.ensures.value)

pub returns-clause-scope : goal.returns-clause-scope
returns-clause-scope c =
    let s : Slot = record { value = c.in-Some.slot.now.value; last_note = c.args.last_note } in
    values-same c.self.inside.slots (c.get_mut.follows.lender s) c.args.variable c.in-Some.slot.now s ((c.get_mut.follows.holds s).3 (is_known c.self.inside.slots c.args.variable c.in-Some.slot.now c.in-Some.ensures.value)) c.in-Some.ensures.value refl
    ∙ ap (λ (s : Variables). s.scope) c.self.view_is

pub returns-clause-last_notes : goal.returns-clause-last_notes
returns-clause-last_notes c =
    let s : Slot = record { value = c.in-Some.slot.now.value; last_note = c.args.last_note } in
    λ q.
    last_notes-insert c.self.inside.slots (c.get_mut.follows.lender s) c.args.variable s ((c.get_mut.follows.holds s).3 (is_known c.self.inside.slots c.args.variable c.in-Some.slot.now c.in-Some.ensures.value)) q
    ∙ ap (λ (s : Variables). cond (c.args.variable == q) c.args.last_note (last_note_in s.last_notes q)) c.self.view_is
