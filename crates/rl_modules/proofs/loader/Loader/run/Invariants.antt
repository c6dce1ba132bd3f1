use Rattle.std.proofs.Common.{◌≡◌, ◌≤◌, ◌+◌, ◌*◌, ◌-◌, Ok, length, IfSome}
use Rattle.rl_modules.specs.Load.{most_modules}
use Rattle.rl_modules.specs.Unfinished.{outcome_of, GoesOn, IsSound, IsUnderWay}
use Rattle.rl_modules.proofs.loader.Loader.run.Given as goal

abbrev pub invariant-modules : goal.invariant-modules
invariant-modules g l = record {
  sound : IsSound l.self;
  under_way : IsUnderWay l.self.list.items l.self.finished.items l.self.unfinished.items;
  held : g.F.Files.holds l.files ≡ g.F.Files.holds l.initial.files;
  counted : g.F.Files.faults l.initial.files ≤ g.F.Files.faults l.files;
  outcome : IfSome (g.F.Files.holds l.initial.files) (λ held. GoesOn {A = Unit {0}} (outcome_of held l.root l.initial.self) (g.F.Files.asked l.initial.files) (Ok tt) (g.F.Files.asked l.files) (outcome_of held l.root l.self));
}

abbrev pub decreases-modules : goal.decreases-modules
decreases-modules g l = 2 * (most_modules - length l.self.list.items) + length l.self.unfinished.items
