use Rattle.std.proofs.Common.{ℕ, Option, Some, sym, ap, subst, ◌∙◌}
use Rattle.std.specs.Option.{is_some}
use Rattle.rl_value.specs.Plain.{Plain}
use Rattle.std.specs.BTreeMap.{BTreeMap}
use Rattle.rl_store.specs.declared.slots.Slot.{Slot}
use Rattle.rl_store.specs.Slots.{rooms_of, last_notes_of}
use Rattle.rl_store.specs.Rooms.{Variables, has_room, last_note_in}
use Rattle.rl_store.specs.Journal.{IsLast, NotesSince}
use Rattle.rl_store.proofs.SlotsLemmas.{on_ok, on_err, in_any, is_known, slot_last, has_room-get, has_room-insert, now_scope, now_last, other_last, had_value, same_scope, same_last_note}
use Rattle.rl_store.proofs.slots.Slots.write.Goals as goal

pub make_room-requires : goal.make_room-requires
make_room-requires c =
    ap (λ (m : BTreeMap ℕ Slot). has_room (rooms_of m.entries) c.args.at.variable) c.get_mut.follows.holds-at-none
    ∙ has_room-get c.self.inside.slots c.args.at.variable ∙ ap is_some (sym c.in-None.ensures.value)

pub write_there-requires-clause-last_note : goal.write_there-requires-clause-last_note
write_there-requires-clause-last_note c =
    let P : ℕ → Type 0 = λ l. IsLast c.args.notes.now.items l c.args.at.place c.args.at.variable in
    subst P (sym (c.make_room.ensures.last_notes c.args.at.variable
    ∙ ap (λ (m : BTreeMap ℕ Slot). last_note_in (last_notes_of m.entries) c.args.at.variable) c.get_mut.follows.holds-at-none
    ∙ ap (λ (s : Variables). last_note_in s.last_notes c.args.at.variable) c.self.view_is)) c.requires

pub returns-in-Some-clause-room : goal.returns-in-Some-clause-room
returns-in-Some-clause-room c =
    in_any c.write.result (has_room-insert c.self.inside.slots (c.get_mut.follows.lender c.write.new.self) c.args.at.variable c.write.new.self ((c.get_mut.follows.holds c.write.new.self).3 (is_known c.self.inside.slots c.args.at.variable c.in-Some.slot.now c.in-Some.ensures.value)))

pub write-requires : goal.write-requires
write-requires c =
    let P : ℕ → Type 0 = λ l. IsLast c.args.notes.now.items l c.args.at.place c.args.at.variable in
    subst P (sym (ap (λ (s : Variables). last_note_in s.last_notes c.args.at.variable) c.self.view_is) ∙ slot_last c.self.inside.slots c.args.at.variable c.in-Some.slot.now c.in-Some.ensures.value) c.requires

pub returns-in-Some-clause-scope : goal.returns-in-Some-clause-scope
returns-in-Some-clause-scope c =
    on_ok c.write.result (now_scope c.self.inside.slots (c.get_mut.follows.lender c.write.new.self) c.args.at.variable c.in-Some.slot.now c.write.new.self c.args.self.now c.self.view_is c.in-Some.ensures.value ((c.get_mut.follows.holds c.write.new.self).3 (is_known c.self.inside.slots c.args.at.variable c.in-Some.slot.now c.in-Some.ensures.value)) (Some c.args.v)) c.write.ensures.value

pub returns-in-Some-clause-last_note : goal.returns-in-Some-clause-last_note
returns-in-Some-clause-last_note c =
    let P : ℕ → Type 0 = λ l. IsLast c.write.new.notes.items l c.args.at.place c.args.at.variable in
    on_ok c.write.result (subst P (sym (now_last c.self.inside.slots (c.get_mut.follows.lender c.write.new.self) c.args.at.variable c.in-Some.slot.now c.write.new.self c.args.self.now c.self.view_is c.in-Some.ensures.value ((c.get_mut.follows.holds c.write.new.self).3 (is_known c.self.inside.slots c.args.at.variable c.in-Some.slot.now c.in-Some.ensures.value))))) c.write.ensures.last_note

pub returns-in-Some-clause-others : goal.returns-in-Some-clause-others
returns-in-Some-clause-others c = other_last c.self.inside.slots (c.get_mut.follows.lender c.write.new.self) c.args.at.variable c.in-Some.slot.now c.write.new.self c.args.self.now c.self.view_is c.in-Some.ensures.value ((c.get_mut.follows.holds c.write.new.self).3 (is_known c.self.inside.slots c.args.at.variable c.in-Some.slot.now c.in-Some.ensures.value))

pub returns-in-Some-clause-notes : goal.returns-in-Some-clause-notes
returns-in-Some-clause-notes c =
    let P : Option Plain → Type 0 = λ o. NotesSince c.args.newest (c.args.at.place, c.args.at.variable) o c.args.notes.now.items c.write.new.notes.items in
    on_ok c.write.result (subst P (sym (had_value c.self.inside.slots (c.get_mut.follows.lender c.write.new.self) c.args.at.variable c.in-Some.slot.now c.write.new.self c.args.self.now c.self.view_is c.in-Some.ensures.value ((c.get_mut.follows.holds c.write.new.self).3 (is_known c.self.inside.slots c.args.at.variable c.in-Some.slot.now c.in-Some.ensures.value))))) c.write.ensures.notes

pub returns-in-Some-clause-same : goal.returns-in-Some-clause-same
returns-in-Some-clause-same c = on_err c.write.result (same_scope c.self.inside.slots (c.get_mut.follows.lender c.write.new.self) c.args.at.variable c.in-Some.slot.now c.write.new.self c.args.self.now c.self.view_is c.in-Some.ensures.value ((c.get_mut.follows.holds c.write.new.self).3 (is_known c.self.inside.slots c.args.at.variable c.in-Some.slot.now c.in-Some.ensures.value))) c.write.ensures.same

pub returns-in-Some-clause-same_note : goal.returns-in-Some-clause-same_note
returns-in-Some-clause-same_note c = on_err c.write.result (same_last_note c.self.inside.slots (c.get_mut.follows.lender c.write.new.self) c.args.at.variable c.in-Some.slot.now c.write.new.self c.args.self.now c.self.view_is c.in-Some.ensures.value ((c.get_mut.follows.holds c.write.new.self).3 (is_known c.self.inside.slots c.args.at.variable c.in-Some.slot.now c.in-Some.ensures.value))) c.write.ensures.same
