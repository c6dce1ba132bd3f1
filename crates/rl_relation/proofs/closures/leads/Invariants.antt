use Rattle.rl_relation.specs.Closures.{Covers}
use Rattle.rl_relation.proofs.PathLemmas.{Walks}
use Rattle.rl_relation.proofs.closures.leads.Given as goal

abbrev pub invariant-loop-next : goal.invariant-loop-next
invariant-loop-next l = record {
  covered : Covers l.seen l.found.items;
  walks : Walks l.pairs l.start l.found.items l.next;
}
