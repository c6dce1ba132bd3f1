use Rattle.std.proofs.Common.{ℕ, Option, sym, subst, ◌∙◌}
use Rattle.rl_value.specs.Plain.{Plain}
use Rattle.rl_store.specs.Journal.{IsLast, NotesSince}
use Rattle.rl_store.proofs.SlotsLemmas.{on_ok, on_err}
use Rattle.rl_store.proofs.Inner.{inner_within, inner_changed, inner_has_room, inner_stays, inner_now_last, inner_last_note, inner_others, inner_value, inner_same_scopes}
use Rattle.rl_store.proofs.scopes.Scopes.write.Goals as goal

pub write-requires-else-at-eq0 : goal.write-requires-else-at-eq0
write-requires-else-at-eq0 c =
    let P : ℕ → Type 0 = λ l. IsLast c.args.notes.now.items l c.args.at.place c.args.at.variable in
    subst P (sym (inner_last_note c.self.inside.first c.self.inside.inner.items c.args.self.now c.args.at.place c.args.at.variable c.index_mut.result.now c.self.view_is c.if-at-eq0.false c.requires.place c.index_mut.ensures.value)) c.requires.last_note

pub returns-else-at-eq0-clause-scopes : goal.returns-else-at-eq0-clause-scopes
returns-else-at-eq0-clause-scopes c =
    on_ok c.write-else-at-eq0.result (inner_changed c.self.inside.first c.self.inside.inner.items c.args.self.now c.args.at.place c.args.at.variable _ c.write-else-at-eq0.new.self c.index_mut.result.now c.self.view_is c.if-at-eq0.false
    (inner_within c.self.inside.first c.self.inside.inner.items c.args.self.now c.args.at.place c.self.view_is c.if-at-eq0.false c.requires.place) c.index_mut.ensures.value) c.write-else-at-eq0.ensures.scope

pub returns-else-at-eq0-clause-room : goal.returns-else-at-eq0-clause-room
returns-else-at-eq0-clause-room c =
    on_ok c.write-else-at-eq0.result (inner_has_room c.self.inside.first c.self.inside.inner.items c.args.at.place c.args.at.variable c.write-else-at-eq0.new.self c.index_mut.result.now c.if-at-eq0.false
    (inner_within c.self.inside.first c.self.inside.inner.items c.args.self.now c.args.at.place c.self.view_is c.if-at-eq0.false c.requires.place)) c.write-else-at-eq0.ensures.room

pub returns-else-at-eq0-clause-stays : goal.returns-else-at-eq0-clause-stays
returns-else-at-eq0-clause-stays c =
    inner_stays c.self.inside.first c.self.inside.inner.items c.args.self.now c.args.at.place c.write-else-at-eq0.new.self c.index_mut.result.now c.self.view_is
    (inner_within c.self.inside.first c.self.inside.inner.items c.args.self.now c.args.at.place c.self.view_is c.if-at-eq0.false c.requires.place) c.index_mut.ensures.value c.write-else-at-eq0.ensures.stays

pub returns-else-at-eq0-clause-last_note : goal.returns-else-at-eq0-clause-last_note
returns-else-at-eq0-clause-last_note c =
    let P : ℕ → Type 0 = λ l. IsLast c.write-else-at-eq0.new.notes.items l c.args.at.place c.args.at.variable in
    on_ok c.write-else-at-eq0.result (subst P (sym (inner_now_last c.self.inside.first c.self.inside.inner.items c.args.at.place c.args.at.variable c.write-else-at-eq0.new.self c.if-at-eq0.false
    (inner_within c.self.inside.first c.self.inside.inner.items c.args.self.now c.args.at.place c.self.view_is c.if-at-eq0.false c.requires.place)))) c.write-else-at-eq0.ensures.last_note

pub returns-else-at-eq0-clause-others : goal.returns-else-at-eq0-clause-others
returns-else-at-eq0-clause-others c =
    inner_others c.self.inside.first c.self.inside.inner.items c.args.self.now c.args.at.place c.args.at.variable c.write-else-at-eq0.new.self c.index_mut.result.now c.self.view_is c.if-at-eq0.false
    (inner_within c.self.inside.first c.self.inside.inner.items c.args.self.now c.args.at.place c.self.view_is c.if-at-eq0.false c.requires.place) c.index_mut.ensures.value c.write-else-at-eq0.ensures.others

pub returns-else-at-eq0-clause-notes : goal.returns-else-at-eq0-clause-notes
returns-else-at-eq0-clause-notes c =
    let P : Option Plain → Type 0 = λ o. NotesSince c.args.newest (c.args.at.place, c.args.at.variable) o c.args.notes.now.items c.write-else-at-eq0.new.notes.items in
    on_ok c.write-else-at-eq0.result (subst P (inner_value c.self.inside.first c.self.inside.inner.items c.args.self.now c.args.at.place c.args.at.variable c.index_mut.result.now c.self.view_is c.if-at-eq0.false c.requires.place c.index_mut.ensures.value)) c.write-else-at-eq0.ensures.notes

pub returns-else-at-eq0-clause-same : goal.returns-else-at-eq0-clause-same
returns-else-at-eq0-clause-same c =
    on_err c.write-else-at-eq0.result (inner_same_scopes c.self.inside.first c.self.inside.inner.items c.args.self.now c.args.at.place c.write-else-at-eq0.new.self c.index_mut.result.now c.self.view_is
    (inner_within c.self.inside.first c.self.inside.inner.items c.args.self.now c.args.at.place c.self.view_is c.if-at-eq0.false c.requires.place) c.index_mut.ensures.value) c.write-else-at-eq0.ensures.same

pub returns-else-at-eq0-clause-same_note : goal.returns-else-at-eq0-clause-same_note
returns-else-at-eq0-clause-same_note c =
    on_err c.write-else-at-eq0.result (λ e. (inner_now_last c.self.inside.first c.self.inside.inner.items c.args.at.place c.args.at.variable c.write-else-at-eq0.new.self c.if-at-eq0.false
    (inner_within c.self.inside.first c.self.inside.inner.items c.args.self.now c.args.at.place c.self.view_is c.if-at-eq0.false c.requires.place)) ∙ e ∙ (inner_last_note c.self.inside.first c.self.inside.inner.items c.args.self.now c.args.at.place c.args.at.variable c.index_mut.result.now c.self.view_is c.if-at-eq0.false c.requires.place c.index_mut.ensures.value)) c.write-else-at-eq0.ensures.same_note
