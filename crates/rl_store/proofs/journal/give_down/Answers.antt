use Rattle.std.proofs.Common.{List, ℕ, take, sym, ◌∙◌, subst}
use Rattle.std.specs.List.{All}
use Rattle.rl_store.specs.Journal.{HasRoomIn}
use Rattle.rl_store.specs.declared.journal.Note.{Note}
use Rattle.rl_store.proofs.StoreLemmas.{room-release}
use Rattle.rl_store.proofs.journal.give_down.Goals as goal

pub link-requires-clause-room : goal.link-requires-clause-room
link-requires-clause-room c =
    let P : List Note → Type 0 = λ ns. All (HasRoomIn c.unlink.new.scopes.rooms) ns in
    let Q : List (List ℕ) → Type 0 = λ rs. All (HasRoomIn rs) c.args.notes.now.items in
    subst P (sym (c.deref-2.ensures.value ∙ c.keep_taken.ensures))
    (room-release (take c.args.from c.args.notes.now.items) c.args.older c.args.from c.args.notes.now.items c.unlink.new.scopes.rooms (subst Q (sym c.unlink.ensures.rooms) c.requires.room))
