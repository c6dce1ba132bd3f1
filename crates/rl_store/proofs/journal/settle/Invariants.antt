use Rattle.std.proofs.lemmas.List.Filters.{FiltersInPlace}
use Rattle.rl_store.specs.Journal.{is_taken}
use Rattle.rl_store.proofs.journal.settle.Given as goal

abbrev pub invariant-loop-i : goal.invariant-loop-i
invariant-loop-i l = FiltersInPlace (is_taken l.front l.older) l.initial.back l.back l.kept l.i
