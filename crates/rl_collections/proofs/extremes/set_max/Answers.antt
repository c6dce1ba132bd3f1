use Rattle.rl_collections.proofs.ExtremesLemmas.{greatest-rising}
use Rattle.std.proofs.Common.{arith}
use Rattle.std.proofs.lemmas.Grind.{common_steps}
use Rattle.rl_collections.proofs.extremes.set_max.Goals as goal

pub returns-in_ok-share-in-Some : goal.returns-in_ok-share-in-Some
returns-in_ok-share-in-Some c = let p = greatest-rising c.args.items.now c.requires in rw p (grind (arith, common_steps))

pub returns-in-None : goal.returns-in-None
returns-in-None c = let p = greatest-rising c.args.items.now c.requires in rw p (grind (arith, common_steps))
