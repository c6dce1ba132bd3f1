use Rattle.std.proofs.Common.{◌≡◌, ◌++◌, length}
use Rattle.rl_expression_forms.specs.Pair.{pairs_in}
use Rattle.rl_expression_forms.proofs.pair.pairs_in.Given as goal

abbrev pub invariant-parts : goal.invariant-parts
invariant-parts g l = l.found.items ++ pairs_in g.P.Pair.of_parts l.rest ≡ pairs_in g.P.Pair.of_parts l.parts

abbrev pub decreases-parts : goal.decreases-parts
decreases-parts g l = length l.rest
