use Rattle.rl_main.proofs.Ends.{budget_told}
use Rattle.rl_main.proofs.command.run_program.Goals as goal

pub returns-in-Budget-clause-headline : goal.returns-in-Budget-clause-headline
returns-in-Budget-clause-headline g c =
    let ends = rw (c.in-Ok.ensures, c.new-meter.ensures) at c.in-Budget.ensures.answer in
    budget_told c.args.units _ c.tell_budget.result (g.O.Sink.told c.args.out.now) (g.O.Sink.told c.run.new.out) (g.E.Sink.told c.args.err.now) (g.E.Sink.told c.tell_budget.new.err)
    ends.0 ends.1 c.tell_budget.ensures.headline
