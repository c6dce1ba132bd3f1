use Rattle.std.proofs.Common.{◌≡◌, [], Some, None, ap, ◌∙◌}
use Rattle.std.specs.BTreeMap.{get_by_text}
use Rattle.std.specs.Option.{option_map_or}
use Rattle.rl_types.proofs.Lookups.{named-rows}
use Rattle.rl_types.proofs.decls.Decls.named.Goals as goal

pub returns-in-Some : goal.returns-in-Some
returns-in-Some c =
    let found : Some c.in-Some.constructors.now ≡ get_by_text c.self.inside.table.value.constructors_by_name c.args.name.now = rw c.deref.ensures at c.in-Some.ensures.value in
    rw (← c.self.view_is) (named-rows c.self.inside.table.value c.self.invariant c.args.name.now c.as_slice.result.now
    (c.as_slice.ensures.value ∙ ap (λ o. option_map_or (λ g. g.items) o []) found))

pub returns-in-None : goal.returns-in-None
returns-in-None c =
    let found : None ≡ get_by_text c.self.inside.table.value.constructors_by_name c.args.name.now = rw c.deref.ensures at c.in-None.ensures.value in
    rw (← c.self.view_is) (named-rows c.self.inside.table.value c.self.invariant c.args.name.now []
    (ap (λ o. option_map_or (λ g. g.items) o []) found))
