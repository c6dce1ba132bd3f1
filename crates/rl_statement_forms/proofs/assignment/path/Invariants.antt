use Rattle.std.proofs.Common.{◌≡◌, ◌++◌, length}
use Rattle.rl_statement_forms.specs.Assignment.{path_in}
use Rattle.rl_statement_forms.proofs.assignment.path.Given as goal

abbrev pub invariant-parts : goal.invariant-parts
invariant-parts l = l.found.items ++ path_in l.rest ≡ path_in l.parts

abbrev pub decreases-parts : goal.decreases-parts
decreases-parts l = length l.rest
