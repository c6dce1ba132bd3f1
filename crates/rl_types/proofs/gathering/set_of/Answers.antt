use Rattle.std.proofs.Common.{true, cond, ◌||◌, take, sym, ap, ◌∙◌}
use Rattle.std.specs.List.{list_any}
use Rattle.std.specs.Str.{bytes_eq}
use Rattle.std.specs.String.{string_bytes}
use Rattle.std.proofs.lemmas.List.Folds.{list_any_more}
use Rattle.std.proofs.lemmas.Map.Text.{btree_set_updates_text}
use Rattle.rl_types.proofs.Names.{cond-or}
use Rattle.rl_types.proofs.gathering.set_of.Goals as goal

pub loop-name-preserved : goal.loop-name-preserved
loop-name-preserved c = λ bytes.
    let key = string_bytes c.in_ok-from_str.field-0 in
    let names = c.args.names.now in
    let i = c.loop-name.name-index in
    btree_set_updates_text key c.loop-name.set c.insert.new.self true c.in_ok-insert.ensures.updates bytes
    ∙ ap (λ x. cond (bytes_eq key bytes) true x) (c.loop-name.invariant bytes)
    ∙ cond-or key bytes (list_any (bytes_eq bytes) (take i names))
    ∙ ap (λ w. list_any (bytes_eq bytes) (take i names) || bytes_eq bytes w) (c.in_ok-from_str.ensures.ok ∙ c.as_str.ensures ∙ c.name-item.is)
    ∙ sym (list_any_more (bytes_eq bytes) names i c.name-item.result c.loop-name-test.true)
