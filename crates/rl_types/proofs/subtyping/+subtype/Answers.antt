use Rattle.std.proofs.Common.{sym}
use Rattle.rl_types.proofs.Fields.{subtypes-apart}
use Rattle.rl_types.proofs.subtyping.+subtype.Goals as goal

pub are_below-returns-then-a-b : goal.are_below-returns-then-a-b
are_below-returns-then-a-b t c = sym (subtypes-apart c.args.decls.now c.args.a.now c.args.b.now c.if-a-b.true)
