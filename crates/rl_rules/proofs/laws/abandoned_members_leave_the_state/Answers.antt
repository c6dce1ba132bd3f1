use Rattle.rl_rules.proofs.After.{abandoned-back, miss-leaves, match-leaves, enumeration-leaves}
use Rattle.rl_rules.proofs.laws.abandoned_members_leave_the_state.Goals as goal

pub returns-clause-each : goal.returns-clause-each
returns-clause-each c = abandoned-back

pub returns-clause-all : goal.returns-clause-all
returns-clause-all c = miss-leaves

pub returns-clause-matches : goal.returns-clause-matches
returns-clause-matches c reading p files e = match-leaves reading files e p

pub returns-clause-enumerations : goal.returns-clause-enumerations
returns-clause-enumerations c reading p files e = enumeration-leaves reading files e p
