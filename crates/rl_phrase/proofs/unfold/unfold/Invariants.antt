use Rattle.std.proofs.Common.{◌≡◌, ◌++◌}
use Rattle.rl_phrase.specs.Arena.{parts_in}
use Rattle.rl_phrase.proofs.Unfolds.{back_steps, pending, work, AreWithin}
use Rattle.rl_phrase.proofs.unfold.unfold.Given as goal

abbrev pub invariant-lists : goal.invariant-lists
invariant-lists l = record {
  within : AreWithin l.arena l.lists;
  steps : l.steps.items ++ pending l.arena l.lists ≡ back_steps (parts_in l.arena l.list);
}

abbrev pub decreases-lists : goal.decreases-lists
decreases-lists l = work l.arena l.lists
