use Rattle.rl_rules.proofs.Scopes.{finite_maps, patterns_see}
use Rattle.rl_rules.proofs.laws.scopes_are_finite_maps.Goals as goal

pub returns-clause-maps : goal.returns-clause-maps
returns-clause-maps c = finite_maps

pub returns-clause-patterns : goal.returns-clause-patterns
returns-clause-patterns c = patterns_see
