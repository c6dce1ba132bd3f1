use Rattle.std.proofs.Common.{◌≡◌, ◌-◌, ◌++◌, true, map}
use Rattle.std.specs.List.{list_all}
use Rattle.rl_value.specs.Plain.{int}
use Rattle.rl_access.specs.Ranges.{by_steps, is_in_range}
use Rattle.rl_access.proofs.ranges.steps.Given as goal

abbrev pub invariant-loop-i : goal.invariant-loop-i
invariant-loop-i l = record {
  found : l.found.items ++ map int (by_steps (l.count - l.i) l.number l.step) ≡ map int (by_steps l.count l.a l.step);
  in_range : list_all is_in_range (by_steps (l.count - l.i) l.number l.step) ≡ true;
}
