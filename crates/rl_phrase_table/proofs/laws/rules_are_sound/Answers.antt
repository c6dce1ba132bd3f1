use Rattle.std.proofs.Common.{refl}
use Rattle.rl_phrase.proofs.Certified.{certificate}
use Rattle.rl_phrase.specs.declared.table.Form.TheVariants.{Named}
use Rattle.rl_phrase_table.specs.declared.rules.TheConstants.{RULES}
use Rattle.rl_phrase_table.proofs.Certificate.{empties, ranks}
use Rattle.rl_phrase_table.proofs.laws.rules_are_sound.Goals as goal

pub returns-clause-no_left_recursion : goal.returns-clause-no_left_recursion
returns-clause-no_left_recursion c = certificate RULES.now empties ranks refl

pub returns-clause-modules : goal.returns-clause-modules
returns-clause-modules c = (record { form = Named; first = 1; count = 4 }, refl, refl)
