use Rattle.std.proofs.Common.{◌≡◌, drop}
use Rattle.rl_forms.specs.Part.{last_in, or_else}
use Rattle.rl_forms.proofs.part.last_in.Given as goal

abbrev pub invariant-loop-part : goal.invariant-loop-part
invariant-loop-part g l = or_else (last_in g.P.Part.of_form (drop l.part-index l.parts)) l.last ≡ last_in g.P.Part.of_form l.fn.parts
