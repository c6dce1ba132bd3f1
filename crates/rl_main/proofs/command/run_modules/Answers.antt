use Rattle.rl_eval.specs.Preparation.{prepared_of}
use Rattle.rl_main.proofs.Ends.{unprepared}
use Rattle.rl_main.proofs.command.run_modules.Goals as goal

pub returns-in-Err-Fault-clause-headline : goal.returns-in-Err-Fault-clause-headline
returns-in-Err-Fault-clause-headline g c =
    unprepared c.args.units (prepared_of c.args.modules.list) _ c.refuse.result (g.O.Sink.told c.args.out.now) (g.E.Sink.told c.args.err.now) (g.E.Sink.told c.refuse.new.err)
    (rw c.in-Err-Fault.field-0-is at c.in-Err-Fault.ensures) c.refuse.ensures.headline
