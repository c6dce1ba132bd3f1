use Rattle.std.proofs.Common.{◌≡◌, ℕ, List, [], ◌∷◌, length, None, arith, sym, ap, ◌∙◌, subst}
use Rattle.std.specs.List.{All}
use Rattle.std.proofs.lemmas.List.{nil_from_length}
use Rattle.rl_store.specs.Scope.{Scope}
use Rattle.rl_store.specs.Journal.{newest_first, IsJournal, HasRoomIn}
use Rattle.rl_store.specs.declared.journal.MarkAt.{MarkAt}
use Rattle.rl_store.proofs.StoreSound.{seen, older_first, seen_release, journal_release, room_released}
use Rattle.rl_store.proofs.store.Store.release.Goals as goal

pub invariant_of-self : goal.invariant_of-self
invariant_of-self c =
    let ms : List MarkAt = newest_first c.pop-self-inside.result c.pop-self-inside.new.self.items in
    let e : newest_first c.self.inside.newest c.self.inside.older.items ≡ c.in-Some.mark ∷ ms =
    ap (λ o. newest_first o c.self.inside.older.items) c.in-Some.is ∙ older_first c.in-Some.mark c.pop-self-inside.result c.self.inside.older.items c.pop-self-inside.new.self.items c.pop-self-inside.ensures.items in
    let J : List MarkAt → Type 0 = λ ns. IsJournal ns c.self.inside.notes.items (length c.self.inside.scopes.scopes) in
    let j : IsJournal (c.in-Some.mark ∷ ms) c.self.inside.notes.items (length c.self.inside.scopes.scopes) = subst J e c.self.invariant.journal in
    let none : c.pop-self-inside.result ≡ None → c.pop-self-inside.new.self.items ≡ [] = λ h. nil_from_length c.pop-self-inside.new.self.items (let k = rw h at c.pop-self-inside.ensures.cases in omega (arith, k.1)) in
    let K : List Scope → Type 0 = λ ss. IsJournal ms c.pass_down.new.notes.items (length ss) in
    let R : List (List ℕ) → Type 0 = λ rs. All (HasRoomIn rs) c.pass_down.new.notes.items in
    record {
      journal = subst K (sym c.pass_down.ensures.scopes) (journal_release c.in-Some.mark c.pop-self-inside.result c.pop-self-inside.new.self.items c.self.inside.notes.items c.pass_down.new.notes.items (length c.self.inside.scopes.scopes) none j c.pass_down.ensures.notes);
      room = subst R (sym c.pass_down.ensures.rooms) (room_released c.in-Some.mark c.pop-self-inside.result c.self.inside.notes.items c.pass_down.new.notes.items c.self.inside.scopes.rooms c.pass_down.ensures.notes c.self.invariant.room);
      last_notes = c.pass_down.ensures.last_notes;
      newest = none;
    }

pub returns-in-Some : goal.returns-in-Some
returns-in-Some c =
    let ms : List MarkAt = newest_first c.pop-self-inside.result c.pop-self-inside.new.self.items in
    let e : newest_first c.self.inside.newest c.self.inside.older.items ≡ c.in-Some.mark ∷ ms =
    ap (λ o. newest_first o c.self.inside.older.items) c.in-Some.is ∙ older_first c.in-Some.mark c.pop-self-inside.result c.self.inside.older.items c.pop-self-inside.new.self.items c.pop-self-inside.ensures.items in
    let J : List MarkAt → Type 0 = λ ns. IsJournal ns c.self.inside.notes.items (length c.self.inside.scopes.scopes) in
    let j : IsJournal (c.in-Some.mark ∷ ms) c.self.inside.notes.items (length c.self.inside.scopes.scopes) = subst J e c.self.invariant.journal in
    let v : seen c.self.inside.scopes.scopes c.self.inside.notes.items (c.in-Some.mark ∷ ms) ≡ c.args.self.now = sym (ap (seen c.self.inside.scopes.scopes c.self.inside.notes.items) e) ∙ c.self.view_is in
    let none : c.pop-self-inside.result ≡ None → c.pop-self-inside.new.self.items ≡ [] = λ h. nil_from_length c.pop-self-inside.new.self.items (let k = rw h at c.pop-self-inside.ensures.cases in omega (arith, k.1)) in
    ap (λ ss. seen ss c.pass_down.new.notes.items ms) c.pass_down.ensures.scopes
    ∙ seen_release c.in-Some.mark c.pop-self-inside.result c.pop-self-inside.new.self.items c.self.inside.notes.items c.pass_down.new.notes.items c.self.inside.scopes.scopes c.args.self.now none v j c.pass_down.ensures.notes
