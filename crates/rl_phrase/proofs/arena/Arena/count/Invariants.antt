use Rattle.std.proofs.Common.{◌≡◌, ◌≤◌, ◌+◌, length}
use Rattle.rl_phrase.specs.Arena.{parts_in}
use Rattle.rl_phrase.proofs.arena.Arena.count.Given as goal

abbrev pub invariant-cells : goal.invariant-cells
invariant-cells l = record {
  within : l.rest ≤ length l.self;
  counts : l.n + length (parts_in l.self l.rest) ≡ length (parts_in l.self l.list);
}

abbrev pub decreases-cells : goal.decreases-cells
decreases-cells l = l.rest
