use Rattle.rl_reader.proofs.Numbers.{read_of-number}
use Rattle.rl_modules.proofs.read.module_of.Goals as goal

pub returns-in-Ok-clause-numbered : goal.returns-in-Ok-clause-numbered
returns-in-Ok-clause-numbered c = read_of-number c.args.number c.args.path.now c.args.name.now c.args.bytes.now _ c.in-Ok.ensures.answer
