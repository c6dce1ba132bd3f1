use Rattle.std.proofs.Common.{◌≡◌, ◌<◌, arith, refl, sym, ap, ◌∙◌, inl, inr, false, drop}
use Rattle.rl_store.specs.Journal.{is_noted, HasNoNote}
use Rattle.rl_store.specs.declared.journal.Note.{Note}
use Rattle.rl_store.proofs.JournalLemmas.{is_noted-find}
use Rattle.rl_store.proofs.LastNotes.{not_noted, last_before}
use Rattle.rl_store.proofs.journal.note_under.Goals as goal
use Rattle.rl_store.proofs.journal.note_under.Goals.{then-place-newest-via-then-place-newest, then-place-newest-via-else-place-newest+then-is_noted}

pub returns-then-place-newest-clause-ok : goal.returns-then-place-newest-clause-ok
returns-then-place-newest-clause-ok c = elim c.then-place-newest.branch [
  | then-place-newest-via-then-place-newest w ↦ inl (refl, inl w.if-place-newest.true)
  | then-place-newest-via-else-place-newest+then-is_noted w ↦
      inl (
        refl,
        inr (is_noted-find c.args.notes.now.items c.args.newest.notes c.args.earlier c.args.at.place c.args.at.variable
            (sym (w.is_noted.ensures ∙ ap (λ ns. is_noted ns c.args.newest.notes c.args.earlier c.args.at.place c.args.at.variable) w.deref.ensures.value) ∙ w.if-is_noted.true)),
      )
]

pub returns-clause-ok : goal.returns-clause-ok
returns-clause-ok c =
    let free : is_noted c.args.notes.now.items c.args.newest.notes c.args.earlier c.args.at.place c.args.at.variable ≡ false =
    sym (c.is_noted.ensures ∙ ap (λ ns. is_noted ns c.args.newest.notes c.args.earlier c.args.at.place c.args.at.variable) c.deref.ensures.value) ∙ c.if-is_noted.false in
    let none : HasNoNote (drop c.args.newest.notes c.args.notes.now.items) (c.args.at.place, c.args.at.variable) =
    not_noted c.args.notes.now.items c.args.newest.notes c.args.earlier c.args.at.place c.args.at.variable c.requires free in
    let n : Note = record { place = c.args.at.place; variable = c.args.at.variable; before = c.in_ok-before.before; earlier = c.args.earlier } in
    let below : c.args.at.place < c.args.newest.scopes = omega (arith, c.if-place-newest.false) in
    inr (
      n,
      c.in_ok-push.ensures.items,
      λ i. ((c.args.at.place, c.args.at.variable), c.in_ok-before.ensures i),
      below,
      none,
      last_before c.args.notes.now.items c.args.newest.notes c.args.earlier c.args.at.place c.args.at.variable none c.requires,
    )
