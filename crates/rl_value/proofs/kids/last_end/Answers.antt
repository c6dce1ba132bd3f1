use Rattle.std.proofs.Common.{Some, None}
use Rattle.rl_value.proofs.KidsLemmas.{kid_count}
use Rattle.rl_value.proofs.kids.last_end.Goals as goal

pub returns-in-Some : goal.returns-in-Some
returns-in-Some c = kid_count c.args.parts.now c.args.ends.now (Some c.in-Some.end.now) c.requires c.in-Some.ensures.value

pub returns-in-None : goal.returns-in-None
returns-in-None c = kid_count c.args.parts.now c.args.ends.now None c.requires c.in-None.ensures.value
