use Rattle.std.proofs.Common.{◌<◌, ◌-◌, length, sym, subst, rules}
use Rattle.std.specs.Bool.{IsTrue}
use Rattle.rl_store.specs.Rooms.{Variables, has_room}
use Rattle.rl_store.proofs.Inner.{inner_room, inner_same_scopes, inner_same_rooms, inner_sets, first_sets}
use Rattle.rl_store.proofs.scopes.Scopes.set_last_note.Goals as goal

pub index_mut-requires : goal.index_mut-requires
index_mut-requires c =
    let h : c.args.place - 1 < length c.self.inside.inner.items = (inner_room c.self.inside.first c.self.inside.inner.items c.args.self.now c.args.place c.args.variable c.self.inside.first c.self.view_is c.if-place-eq0.false c.requires).0 in
    search (rules, h)

pub set_last_note-requires-else-place-eq0 : goal.set_last_note-requires-else-place-eq0
set_last_note-requires-else-place-eq0 c =
    let P : Variables → Type 0 = λ v. IsTrue (has_room v.room c.args.variable) in
    subst P (sym c.index_mut.ensures.value)
    (inner_room c.self.inside.first c.self.inside.inner.items c.args.self.now c.args.place c.args.variable c.index_mut.result.now c.self.view_is c.if-place-eq0.false c.requires).1

pub returns-else-place-eq0-clause-scopes : goal.returns-else-place-eq0-clause-scopes
returns-else-place-eq0-clause-scopes c =
    inner_same_scopes c.self.inside.first c.self.inside.inner.items c.args.self.now c.args.place _ c.index_mut.result.now c.self.view_is
    (inner_room c.self.inside.first c.self.inside.inner.items c.args.self.now c.args.place c.args.variable c.self.inside.first c.self.view_is c.if-place-eq0.false c.requires).0
    c.index_mut.ensures.value c.set_last_note-else-place-eq0.ensures.scope

pub returns-else-place-eq0-clause-rooms : goal.returns-else-place-eq0-clause-rooms
returns-else-place-eq0-clause-rooms c =
    inner_same_rooms c.self.inside.first c.self.inside.inner.items c.args.self.now c.args.place _ c.index_mut.result.now c.self.view_is
    (inner_room c.self.inside.first c.self.inside.inner.items c.args.self.now c.args.place c.args.variable c.self.inside.first c.self.view_is c.if-place-eq0.false c.requires).0
    c.index_mut.ensures.value c.set_last_note-else-place-eq0.ensures.room

pub returns-else-place-eq0-clause-last_notes : goal.returns-else-place-eq0-clause-last_notes
returns-else-place-eq0-clause-last_notes c =
    inner_sets c.self.inside.first c.self.inside.inner.items c.args.self.now c.args.place c.args.variable c.args.last_note _ c.index_mut.result.now c.self.view_is c.if-place-eq0.false
    (inner_room c.self.inside.first c.self.inside.inner.items c.args.self.now c.args.place c.args.variable c.self.inside.first c.self.view_is c.if-place-eq0.false c.requires).0
    c.index_mut.ensures.value c.set_last_note-else-place-eq0.ensures.last_notes

pub returns-then-place-eq0-clause-last_notes : goal.returns-then-place-eq0-clause-last_notes
returns-then-place-eq0-clause-last_notes c =
    first_sets c.self.inside.first c.set_last_note.new.self c.self.inside.inner.items c.args.self.now c.args.place c.args.variable c.args.last_note c.self.view_is c.if-place-eq0.true c.set_last_note.ensures.last_notes
