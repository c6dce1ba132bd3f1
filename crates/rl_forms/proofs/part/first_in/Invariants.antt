use Rattle.std.proofs.Common.{◌≡◌, ◌++◌, drop}
use Rattle.std.specs.List.{filter_map}
use Rattle.rl_forms.specs.Part.{first_in, last_in, or_else, Gives}
use Rattle.rl_forms.proofs.part.first_in.Given as goal

abbrev pub invariant-loop-part : goal.invariant-loop-part
invariant-loop-part g l = first_in g.P.Part.of_form (drop l.part-index l.parts) ≡ first_in g.P.Part.of_form l.fn.parts
