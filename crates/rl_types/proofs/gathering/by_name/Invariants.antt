use Rattle.std.proofs.Common.{◌≡◌, ℕ, List, [], take}
use Rattle.std.specs.List.{filter}
use Rattle.std.specs.Option.{option_map_or}
use Rattle.std.specs.Str.{bytes_eq}
use Rattle.std.specs.BTreeMap.{get_by_text}
use Rattle.rl_types.proofs.gathering.by_name.Given as goal

abbrev pub invariant-loop-constructor : goal.invariant-loop-constructor
invariant-loop-constructor l = (bytes : List ℕ) → option_map_or (λ all. all.items) (get_by_text l.found bytes) [] ≡ filter (λ c. bytes_eq bytes c.name) (take l.constructor-index l.constructors)
