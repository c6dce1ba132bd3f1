use Rattle.std.proofs.Common.{◌≡◌, ◌≤◌, [], take, reverse, length, None}
use Rattle.rl_phrase.proofs.Scan.{scan}
use Rattle.rl_phrase.proofs.build.too_deep.Given as goal

abbrev pub invariant-steps : goal.invariant-steps
invariant-steps l = record {
  within : l.i ≤ length l.steps;
  scans : scan 1000 (reverse (take l.i l.steps)) l.above l.deep ≡ scan 1000 (reverse l.steps) [] None;
}

abbrev pub decreases-steps : goal.decreases-steps
decreases-steps l = l.i
