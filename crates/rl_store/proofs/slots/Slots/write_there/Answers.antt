use Rattle.std.proofs.Common.{ℕ, Option, Some, sym, ap, subst, ◌∙◌}
use Rattle.rl_value.specs.Plain.{Plain}
use Rattle.rl_store.specs.Rooms.{Variables, has_room, last_note_in}
use Rattle.rl_store.specs.Journal.{IsLast, NotesSince}
use Rattle.rl_store.proofs.SlotsLemmas.{on_ok, on_err, is_known, slot_last, has_room-known, now_scope, now_last, other_last, had_value, same_scope, same_last_note}
use Rattle.rl_store.proofs.slots.Slots.write_there.Goals as goal

pub unreachable-requires : goal.unreachable-requires
unreachable-requires c =
    has_room-known c.self.inside.slots c.args.at.variable (ap (λ (s : Variables). has_room s.room c.args.at.variable) c.self.view_is ∙ c.requires.room) (sym c.in-None.ensures.value)

pub write-requires : goal.write-requires
write-requires c =
    let P : ℕ → Type 0 = λ l. IsLast c.args.notes.now.items l c.args.at.place c.args.at.variable in
    subst P (sym (ap (λ (s : Variables). last_note_in s.last_notes c.args.at.variable) c.self.view_is) ∙ slot_last c.self.inside.slots c.args.at.variable c.in-Some.slot.now c.in-Some.ensures.value) c.requires.last_note

pub returns-clause-scope : goal.returns-clause-scope
returns-clause-scope c =
    on_ok c.write.result (now_scope c.self.inside.slots (c.get_mut.follows.lender c.write.new.self) c.args.at.variable c.in-Some.slot.now c.write.new.self c.args.self.now c.self.view_is c.in-Some.ensures.value ((c.get_mut.follows.holds c.write.new.self).3 (is_known c.self.inside.slots c.args.at.variable c.in-Some.slot.now c.in-Some.ensures.value)) (Some c.args.v)) c.write.ensures.value

pub returns-clause-last_note : goal.returns-clause-last_note
returns-clause-last_note c =
    let P : ℕ → Type 0 = λ l. IsLast c.write.new.notes.items l c.args.at.place c.args.at.variable in
    on_ok c.write.result (subst P (sym (now_last c.self.inside.slots (c.get_mut.follows.lender c.write.new.self) c.args.at.variable c.in-Some.slot.now c.write.new.self c.args.self.now c.self.view_is c.in-Some.ensures.value ((c.get_mut.follows.holds c.write.new.self).3 (is_known c.self.inside.slots c.args.at.variable c.in-Some.slot.now c.in-Some.ensures.value))))) c.write.ensures.last_note

pub returns-clause-others : goal.returns-clause-others
returns-clause-others c = other_last c.self.inside.slots (c.get_mut.follows.lender c.write.new.self) c.args.at.variable c.in-Some.slot.now c.write.new.self c.args.self.now c.self.view_is c.in-Some.ensures.value ((c.get_mut.follows.holds c.write.new.self).3 (is_known c.self.inside.slots c.args.at.variable c.in-Some.slot.now c.in-Some.ensures.value))

pub returns-clause-notes : goal.returns-clause-notes
returns-clause-notes c =
    let P : Option Plain → Type 0 = λ o. NotesSince c.args.newest (c.args.at.place, c.args.at.variable) o c.args.notes.now.items c.write.new.notes.items in
    on_ok c.write.result (subst P (sym (had_value c.self.inside.slots (c.get_mut.follows.lender c.write.new.self) c.args.at.variable c.in-Some.slot.now c.write.new.self c.args.self.now c.self.view_is c.in-Some.ensures.value ((c.get_mut.follows.holds c.write.new.self).3 (is_known c.self.inside.slots c.args.at.variable c.in-Some.slot.now c.in-Some.ensures.value))))) c.write.ensures.notes

pub returns-clause-same : goal.returns-clause-same
returns-clause-same c = on_err c.write.result (same_scope c.self.inside.slots (c.get_mut.follows.lender c.write.new.self) c.args.at.variable c.in-Some.slot.now c.write.new.self c.args.self.now c.self.view_is c.in-Some.ensures.value ((c.get_mut.follows.holds c.write.new.self).3 (is_known c.self.inside.slots c.args.at.variable c.in-Some.slot.now c.in-Some.ensures.value))) c.write.ensures.same

pub returns-clause-same_note : goal.returns-clause-same_note
returns-clause-same_note c = on_err c.write.result (same_last_note c.self.inside.slots (c.get_mut.follows.lender c.write.new.self) c.args.at.variable c.in-Some.slot.now c.write.new.self c.args.self.now c.self.view_is c.in-Some.ensures.value ((c.get_mut.follows.holds c.write.new.self).3 (is_known c.self.inside.slots c.args.at.variable c.in-Some.slot.now c.in-Some.ensures.value))) c.write.ensures.same
