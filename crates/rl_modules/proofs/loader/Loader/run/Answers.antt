use Rattle.std.proofs.Common.{Ok, Err, ◌∙◌, arith}
use Rattle.rl_modules.proofs.Goes.{goes-on}
use Rattle.rl_modules.proofs.loader.Loader.run.Goals as goal

pub returns-in-Err-clause-answer : goal.returns-in-Err-clause-answer
returns-in-Err-clause-answer g c =
    goes-on (g.F.Files.holds c.args.files.now) c.args.root.now (g.F.Files.asked c.args.files.now) (g.F.Files.asked c.modules.files) (g.F.Files.asked c.go_on.new.files) c.args.self.now c.modules.self c.go_on.new.self c.pop.new.self.items c.in-Some.unfinished (Err c.in-Err.end)
    c.in-Some.ensures.items c.modules.invariant.outcome (rw c.modules.invariant.held at c.in-Err.ensures.answer)

pub modules-preserved : goal.modules-preserved
modules-preserved g c = record {
  sound = c.in_default-go_on.ensures.sound;
  under_way = c.in_default-go_on.ensures.under_way;
  held = c.in_default-go_on.ensures.held ∙ c.modules.invariant.held;
  counted = omega (arith, c.in_default-go_on.ensures.counted);
  outcome =
      goes-on (g.F.Files.holds c.args.files.now) c.args.root.now (g.F.Files.asked c.args.files.now) (g.F.Files.asked c.modules.files) (g.F.Files.asked c.go_on.new.files) c.args.self.now c.modules.self c.go_on.new.self c.pop.new.self.items c.in-Some.unfinished (Ok tt)
      c.in-Some.ensures.items c.modules.invariant.outcome (rw c.modules.invariant.held at c.in_default-go_on.ensures.answer);
}

pub go_on-requires-clause-under_way : goal.go_on-requires-clause-under_way
go_on-requires-clause-under_way g c = rw c.in-Some.ensures.items at c.modules.invariant.under_way
