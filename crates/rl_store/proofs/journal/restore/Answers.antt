use Rattle.std.proofs.Common.{◌≡◌, ◌++◌, ◌≤◌, length, take, drop, refl, sym, ap, ◌∙◌, subst, arith, List, ℕ, Some, length-append, [], ◌∷◌}
use Rattle.std.specs.List.{All}
use Rattle.std.proofs.lemmas.List.{take-append-le, drop-append-le}
use Rattle.std.proofs.lemmas.List.Elements.{All-pop}
use Rattle.rl_store.specs.Store.{laid_entries}
use Rattle.rl_store.specs.Journal.{entries_of, HasRoomIn, IsLinked, HasNoNote}
use Rattle.rl_store.specs.declared.journal.Note.{Note}
use Rattle.rl_store.proofs.JournalLemmas.{laid-push}
use Rattle.rl_store.proofs.LastNotes.{no_note_push, last_but, but_less}
use Rattle.rl_store.proofs.journal.restore.Goals as goal

pub loop-notes-init : goal.loop-notes-init
loop-notes-init c = record {
  scopes = refl;
  rooms = refl;
  front = refl;
  room = c.requires.room;
  linked = c.requires.linked;
  last_notes = last_but c.args.notes.now.items c.args.from c.args.scopes.now.last_notes c.requires.last_notes;
}

pub set-requires : goal.set-requires
set-requires c = (All-pop (HasRoomIn c.loop-notes.scopes.rooms) c.loop-notes.notes.items c.pop.new.self.items (Some c.in-Some.note) c.in-Some.ensures.items c.loop-notes.invariant.room).1

pub loop-notes-preserved-in-Some : goal.loop-notes-preserved-in-Some
loop-notes-preserved-in-Some c =
    let within : c.args.from ≤ length c.pop.new.self.items =
    omega (arith, c.in-Some.ensures.cases, ap length c.in-Some.ensures.items, length-append c.pop.new.self.items (c.in-Some.note ∷ [])) in
    let front : List Note = take c.args.from c.args.notes.now.items in
    let more : drop c.args.from c.loop-notes.notes.items ≡ drop c.args.from c.pop.new.self.items ++ c.in-Some.note ∷ [] =
    ap (drop c.args.from) c.in-Some.ensures.items ∙ drop-append-le c.args.from c.pop.new.self.items (c.in-Some.note ∷ []) within in
    let left = All-pop (IsLinked front) (drop c.args.from c.loop-notes.notes.items) (drop c.args.from c.pop.new.self.items) (Some c.in-Some.note) more c.loop-notes.invariant.linked in
    record {
      scopes =
          ap (laid_entries (entries_of (drop c.args.from c.pop.new.self.items))) c.set.ensures.scopes
          ∙ sym (laid-push c.pop.new.self.items c.in-Some.note c.loop-notes.scopes.scopes c.args.from within)
          ∙ ap (λ ns. laid_entries (entries_of (drop c.args.from ns)) c.loop-notes.scopes.scopes) (sym c.in-Some.ensures.items)
          ∙ c.loop-notes.invariant.scopes;
      rooms = c.set.ensures.rooms ∙ c.loop-notes.invariant.rooms;
      front =
          sym (take-append-le c.args.from c.pop.new.self.items (c.in-Some.note ∷ []) within)
          ∙ ap (take c.args.from) (sym c.in-Some.ensures.items) ∙ c.loop-notes.invariant.front;
      room =
          let P : List (List ℕ) → Type 0 = λ rs. All (HasRoomIn rs) c.pop.new.self.items in
          subst P (sym c.set.ensures.rooms)
          (All-pop (HasRoomIn c.loop-notes.scopes.rooms) c.loop-notes.notes.items c.pop.new.self.items (Some c.in-Some.note) c.in-Some.ensures.items c.loop-notes.invariant.room).0;
      linked = left.0;
      last_notes =
          but_less front c.in-Some.note (drop c.args.from c.loop-notes.notes.items) (drop c.args.from c.pop.new.self.items) _ _
          (λ k e h. let P : List Note → Type 0 = λ ns. HasNoNote ns k in subst P (sym more) (no_note_push (drop c.args.from c.pop.new.self.items) c.in-Some.note k e h))
          c.set.ensures.last_notes left.1 c.loop-notes.invariant.last_notes;
    }
