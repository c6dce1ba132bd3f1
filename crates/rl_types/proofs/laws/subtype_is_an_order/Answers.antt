use Rattle.rl_types.proofs.Order.{subtype-refl, subtype-trans}
use Rattle.rl_types.proofs.laws.subtype_is_an_order.Goals as goal

pub returns-clause-reflexive : goal.returns-clause-reflexive
returns-clause-reflexive c = subtype-refl

pub returns-clause-transitive : goal.returns-clause-transitive
returns-clause-transitive c = subtype-trans
