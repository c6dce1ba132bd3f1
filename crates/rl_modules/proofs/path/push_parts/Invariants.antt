use Rattle.std.proofs.Common.{◌≡◌, ◌++◌, map, flat_map, take, string_bytes}
use Rattle.rl_modules.specs.Path.{part_of}
use Rattle.rl_modules.proofs.path.push_parts.Given as goal

abbrev pub invariant-loop-part : goal.invariant-loop-part
invariant-loop-part l = string_bytes l.path ≡ string_bytes l.initial.path ++ flat_map part_of (map (λ part. part.now) (take l.part-index l.parts))
