use Rattle.std.proofs.Common.{◌≡◌, List, ◌∷◌, length, arith, sym, ap, ◌∙◌, subst}
use Rattle.std.proofs.lemmas.List.{nil_from_length}
use Rattle.rl_store.specs.Journal.{newest_first, IsJournal}
use Rattle.rl_store.specs.declared.journal.MarkAt.{MarkAt}
use Rattle.rl_store.proofs.StoreSound.{seen, older_first, seen_rollback, laid_rollback, journal_rollback, room_restore, room_rollback, last_notes_restore}
use Rattle.rl_store.proofs.store.Store.rollback.Goals as goal

pub restore-requires-clause-room : goal.restore-requires-clause-room
restore-requires-clause-room c =
    let ms : List MarkAt = newest_first c.pop-self-inside.result c.pop-self-inside.new.self.items in
    let e : newest_first c.self.inside.newest c.self.inside.older.items ≡ c.in-Some.mark ∷ ms =
    ap (λ o. newest_first o c.self.inside.older.items) c.in-Some.is ∙ older_first c.in-Some.mark c.pop-self-inside.result c.self.inside.older.items c.pop-self-inside.new.self.items c.pop-self-inside.ensures.items in
    let J : List MarkAt → Type 0 = λ ns. IsJournal ns c.self.inside.notes.items (length c.self.inside.scopes.scopes) in
    let j : IsJournal (c.in-Some.mark ∷ ms) c.self.inside.notes.items (length c.self.inside.scopes.scopes) = subst J e c.self.invariant.journal in
    room_restore c.in-Some.mark ms c.self.inside.notes.items (length c.self.inside.scopes.scopes) c.self.inside.scopes.rooms c.truncate.new.self.rooms j c.truncate.ensures.rooms c.self.invariant.room

pub restore-requires-clause-last_notes : goal.restore-requires-clause-last_notes
restore-requires-clause-last_notes c =
    let ms : List MarkAt = newest_first c.pop-self-inside.result c.pop-self-inside.new.self.items in
    let e : newest_first c.self.inside.newest c.self.inside.older.items ≡ c.in-Some.mark ∷ ms =
    ap (λ o. newest_first o c.self.inside.older.items) c.in-Some.is ∙ older_first c.in-Some.mark c.pop-self-inside.result c.self.inside.older.items c.pop-self-inside.new.self.items c.pop-self-inside.ensures.items in
    let J : List MarkAt → Type 0 = λ ns. IsJournal ns c.self.inside.notes.items (length c.self.inside.scopes.scopes) in
    let j : IsJournal (c.in-Some.mark ∷ ms) c.self.inside.notes.items (length c.self.inside.scopes.scopes) = subst J e c.self.invariant.journal in
    last_notes_restore c.in-Some.mark ms c.self.inside.notes.items (length c.self.inside.scopes.scopes) c.self.inside.scopes.last_notes c.truncate.new.self.last_notes j c.truncate.ensures.last_notes c.self.invariant.last_notes

pub invariant_of-self : goal.invariant_of-self
invariant_of-self c =
    let ms : List MarkAt = newest_first c.pop-self-inside.result c.pop-self-inside.new.self.items in
    let e : newest_first c.self.inside.newest c.self.inside.older.items ≡ c.in-Some.mark ∷ ms =
    ap (λ o. newest_first o c.self.inside.older.items) c.in-Some.is ∙ older_first c.in-Some.mark c.pop-self-inside.result c.self.inside.older.items c.pop-self-inside.new.self.items c.pop-self-inside.ensures.items in
    let J : List MarkAt → Type 0 = λ ns. IsJournal ns c.self.inside.notes.items (length c.self.inside.scopes.scopes) in
    let j : IsJournal (c.in-Some.mark ∷ ms) c.self.inside.notes.items (length c.self.inside.scopes.scopes) = subst J e c.self.invariant.journal in
    record {
      journal = journal_rollback c.in-Some.mark ms c.self.inside.notes.items c.restore.new.notes.items c.self.inside.scopes.scopes c.truncate.new.self.scopes c.restore.new.scopes.scopes j c.truncate.ensures.scopes c.restore.ensures.scopes c.restore.ensures.notes;
      room = room_rollback c.in-Some.mark ms c.self.inside.notes.items c.restore.new.notes.items (length c.self.inside.scopes.scopes) c.self.inside.scopes.rooms c.truncate.new.self.rooms c.restore.new.scopes.rooms j c.truncate.ensures.rooms c.restore.ensures.rooms c.restore.ensures.notes c.self.invariant.room;
      last_notes = c.restore.ensures.last_notes;
      newest = λ h. nil_from_length c.pop-self-inside.new.self.items (let k = rw h at c.pop-self-inside.ensures.cases in omega (arith, k.1));
    }

pub returns-in-Some-clause-state : goal.returns-in-Some-clause-state
returns-in-Some-clause-state c =
    let ms : List MarkAt = newest_first c.pop-self-inside.result c.pop-self-inside.new.self.items in
    let e : newest_first c.self.inside.newest c.self.inside.older.items ≡ c.in-Some.mark ∷ ms =
    ap (λ o. newest_first o c.self.inside.older.items) c.in-Some.is ∙ older_first c.in-Some.mark c.pop-self-inside.result c.self.inside.older.items c.pop-self-inside.new.self.items c.pop-self-inside.ensures.items in
    let J : List MarkAt → Type 0 = λ ns. IsJournal ns c.self.inside.notes.items (length c.self.inside.scopes.scopes) in
    let j : IsJournal (c.in-Some.mark ∷ ms) c.self.inside.notes.items (length c.self.inside.scopes.scopes) = subst J e c.self.invariant.journal in
    let v : seen c.self.inside.scopes.scopes c.self.inside.notes.items (c.in-Some.mark ∷ ms) ≡ c.args.self.now = sym (ap (seen c.self.inside.scopes.scopes c.self.inside.notes.items) e) ∙ c.self.view_is in
    seen_rollback c.in-Some.mark ms c.self.inside.notes.items c.restore.new.notes.items c.self.inside.scopes.scopes c.truncate.new.self.scopes c.restore.new.scopes.scopes c.args.self.now v c.truncate.ensures.scopes c.restore.ensures.scopes c.restore.ensures.notes

pub returns-in-Some-clause-laid : goal.returns-in-Some-clause-laid
returns-in-Some-clause-laid c =
    let ms : List MarkAt = newest_first c.pop-self-inside.result c.pop-self-inside.new.self.items in
    let e : newest_first c.self.inside.newest c.self.inside.older.items ≡ c.in-Some.mark ∷ ms =
    ap (λ o. newest_first o c.self.inside.older.items) c.in-Some.is ∙ older_first c.in-Some.mark c.pop-self-inside.result c.self.inside.older.items c.pop-self-inside.new.self.items c.pop-self-inside.ensures.items in
    let J : List MarkAt → Type 0 = λ ns. IsJournal ns c.self.inside.notes.items (length c.self.inside.scopes.scopes) in
    let j : IsJournal (c.in-Some.mark ∷ ms) c.self.inside.notes.items (length c.self.inside.scopes.scopes) = subst J e c.self.invariant.journal in
    let v : seen c.self.inside.scopes.scopes c.self.inside.notes.items (c.in-Some.mark ∷ ms) ≡ c.args.self.now = sym (ap (seen c.self.inside.scopes.scopes c.self.inside.notes.items) e) ∙ c.self.view_is in
    laid_rollback c.in-Some.mark ms c.self.inside.notes.items c.self.inside.scopes.scopes c.truncate.new.self.scopes c.restore.new.scopes.scopes c.args.self.now v j c.truncate.ensures.scopes c.restore.ensures.scopes
