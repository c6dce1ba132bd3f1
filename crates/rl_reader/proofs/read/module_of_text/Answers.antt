use Rattle.std.proofs.Common.{sym, subst}
use Rattle.rl_reader.specs.Read.{Answers}
use Rattle.rl_reader.proofs.Texts.{told_fault, no_fault}
use Rattle.rl_reader.proofs.read.module_of_text.Goals as goal

pub returns-in-Err-clause-answer : goal.returns-in-Err-clause-answer
returns-in-Err-clause-answer c =
    told_fault c.args.number c.args.path.now c.args.name.now c.args.text c.in-Err.fault c.token_fault.result c.in-Err.ensures.answer c.token_fault.ensures

pub returns-in-Ok-clause-answer : goal.returns-in-Ok-clause-answer
returns-in-Ok-clause-answer c =
    let same = no_fault c.args.number c.args.path.now c.args.name.now c.args.text c.in-Ok.tokens c.in-Ok.ensures.answer.0 c.in-Ok.ensures.answer.1 in
    subst (λ r. Answers r c.module_of_source.result) (sym same) c.module_of_source.ensures.answer
