use Rattle.std.proofs.Common.{length, arith, [], ap}
use Rattle.rl_value.specs.Plain.{leaf}
use Rattle.rl_value.proofs.KidsLemmas.{ends_after, length-kid_ends, place}
use Rattle.rl_value.proofs.kids.place_in.Goals as goal

pub first_after-part-requires-clause-some : goal.first_after-part-requires-clause-some
first_after-part-requires-clause-some c = (ends_after c.args.parts.now c.args.ends.now c.args.i c.requires.ends c.requires.within).some

pub first_after-part-requires-clause-within : goal.first_after-part-requires-clause-within
first_after-part-requires-clause-within c = (ends_after c.args.parts.now c.args.ends.now c.args.i c.requires.ends c.requires.within).within

pub returns-clause-part : goal.returns-clause-part
returns-clause-part c = omega (arith, ap length c.requires.ends, length-kid_ends 0 c.args.parts.now)

pub returns-clause-inside : goal.returns-clause-inside
returns-clause-inside c =
    rw c.before-before.ensures
    (place c.args.parts.now c.args.ends.now c.args.i c.first_after-part.result (leaf []) c.requires.ends
    c.first_after-part.ensures.bound c.first_after-part.ensures.after c.first_after-part.ensures.before).inside

pub returns-clause-kid : goal.returns-clause-kid
returns-clause-kid c =
    rw c.before-before.ensures
    (place c.args.parts.now c.args.ends.now c.args.i c.first_after-part.result (leaf []) c.requires.ends
    c.first_after-part.ensures.bound c.first_after-part.ensures.after c.first_after-part.ensures.before).kid
