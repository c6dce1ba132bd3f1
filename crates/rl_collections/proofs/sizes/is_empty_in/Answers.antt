use Rattle.std.proofs.Common.{◌≡◌, ℕ, Some, ap, ◌∙◌, ◌==◌}
use Rattle.std.specs.Option.{option_map}
use Rattle.rl_collections.proofs.SizesLemmas.{entry_count}
use Rattle.rl_collections.proofs.sizes.is_empty_in.Goals as goal

pub returns-in-Map : goal.returns-in-Map
returns-in-Map c = ap Some c.is_empty.ensures ∙ ap (option_map (λ (n : ℕ). n == 0)) (entry_count c.args.v.now c.in-Map.entries.now c.in-Map.ensures.value)
