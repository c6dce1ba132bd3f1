use Rattle.std.proofs.Common.{sym, ap, ◌∙◌}
use Rattle.std.specs.FinMap.{get}
use Rattle.rl_store.specs.Slots.{value_in}
use Rattle.rl_store.proofs.SlotsLemmas.{get-values_of}
use Rattle.rl_store.proofs.slots.Slots.value.Goals as goal

pub returns-in-Some : goal.returns-in-Some
returns-in-Some c =
    c.as_ref.ensures.value ∙ ap value_in c.in-Some.ensures.value
    ∙ sym (get-values_of c.args.variable c.self.inside.slots.entries) ∙ ap (λ s. get s.scope c.args.variable) c.self.view_is

pub returns-in-None : goal.returns-in-None
returns-in-None c =
    ap value_in c.in-None.ensures.value
    ∙ sym (get-values_of c.args.variable c.self.inside.slots.entries) ∙ ap (λ s. get s.scope c.args.variable) c.self.view_is
