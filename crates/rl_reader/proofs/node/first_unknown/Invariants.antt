use Rattle.std.proofs.Common.{◌≡◌, drop}
use Rattle.rl_reader.specs.Node.{first_unknown}
use Rattle.rl_reader.proofs.node.first_unknown.Given as goal

abbrev pub invariant-loop-part : goal.invariant-loop-part
invariant-loop-part l = first_unknown (drop l.part-index l.parts) ≡ first_unknown l.parts
