use Rattle.std.proofs.Common.{refl}
use Rattle.rl_main.proofs.Ends.{loaded_asked}
use Rattle.rl_main.proofs.command.run_module.Goals as goal

pub returns-in-Ok-clause-asked : goal.returns-in-Ok-clause-asked
returns-in-Ok-clause-asked g c =
    loaded_asked (g.F.Files.holds c.args.files.now) c.args.asked.root.now c.args.asked.name.now c.run_modules.result (g.F.Files.asked c.args.files.now) (g.F.Files.asked c.load.new.files) (g.F.Files.asked c.run_modules.new.files) c.in-Ok.ensures.asked c.run_modules.ensures.asked

pub returns-in-Err-Fault-clause-asked : goal.returns-in-Err-Fault-clause-asked
returns-in-Err-Fault-clause-asked g c =
    loaded_asked (g.F.Files.holds c.args.files.now) c.args.asked.root.now c.args.asked.name.now c.refuse.result (g.F.Files.asked c.args.files.now) (g.F.Files.asked c.load.new.files) (g.F.Files.asked c.load.new.files) (rw c.in-Err-Fault.field-0-is at c.in-Err-Fault.ensures.asked) refl
