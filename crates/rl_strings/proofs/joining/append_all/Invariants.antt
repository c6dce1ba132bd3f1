use Rattle.std.proofs.Common.{◌≡◌, ◌++◌, take}
use Rattle.std.specs.List.{flat_map}
use Rattle.std.specs.String.{string_bytes}
use Rattle.rl_print.specs.Printed.{shown_of}
use Rattle.rl_strings.proofs.joining.append_all.Given as goal

abbrev pub invariant-loop-item : goal.invariant-loop-item
invariant-loop-item l = string_bytes l.out ≡ string_bytes l.initial.out ++ flat_map (λ t. l.between ++ shown_of t) (take l.item-index l.items)
