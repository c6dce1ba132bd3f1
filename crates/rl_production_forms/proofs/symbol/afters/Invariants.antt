use Rattle.std.proofs.Common.{◌≡◌, ◌++◌, length}
use Rattle.rl_production_forms.specs.Symbol.{afters_in}
use Rattle.rl_production_forms.proofs.symbol.afters.Given as goal

abbrev pub invariant-parts : goal.invariant-parts
invariant-parts l = l.found.items ++ afters_in l.rest ≡ afters_in l.parts

abbrev pub decreases-parts : goal.decreases-parts
decreases-parts l = length l.rest
