use Rattle.std.proofs.Common.{sym, ap, ◌∙◌, arith}
use Rattle.rl_value.specs.Laws.{plain_eq, plain_same}
use Rattle.rl_value.specs.declared.value.Entry.{Entry}
use Rattle.rl_access.proofs.EntryOrder.{value_found, value_missing, same_at}
use Rattle.rl_access.proofs.elements.find.Goals as goal
use Rattle.rl_access.proofs.elements.find.Goals.{then-place-entries+else-eq, else-place-entries}

pub returns-then-eq : goal.returns-then-eq
returns-then-eq c =
    sym (value_found c.args.key.now c.args.entries.now c.key_place-place.result c.index-entries-place.result (omega arith) c.index-entries-place.is c.requires
    (plain_same c.index-entries-place.result.key c.args.key.now (sym c.if-eq.ensures)))

pub returns : goal.returns
returns c =
    elim c.if-place-entries.branch [
      | then-place-entries+else-eq w ↦
          sym (value_missing c.args.key.now c.args.entries.now c.key_place-place.result c.requires c.key_place-place.ensures.0 c.key_place-place.ensures.1
          (λ d l. ap (λ (e : Entry). plain_eq e.key c.args.key.now) (same_at c.args.entries.now c.key_place-place.result d w.index-entries-place.result l ∙ sym w.index-entries-place.is)
          ∙ sym w.if-eq.ensures))
      | else-place-entries w ↦
          sym (value_missing c.args.key.now c.args.entries.now c.key_place-place.result c.requires c.key_place-place.ensures.0 c.key_place-place.ensures.1
          (λ d l. absurd (omega arith)))
    ]
