use Rattle.std.proofs.Common.{sym, subst}
use Rattle.rl_phrase.specs.View.{view}
use Rattle.rl_reader.specs.Read.{Answers}
use Rattle.rl_reader.proofs.Phrases.{found, phrase_told}
use Rattle.rl_reader.proofs.read.module_of_source.Goals as goal

pub returns-in-Ok-clause-answer : goal.returns-in-Ok-clause-answer
returns-in-Ok-clause-answer c =
    let g = c.in-Ok.ensures.0 in
    subst (λ r. Answers r c.module_of_phrase.result) (sym (found c.args.source.now c.args.path.now c.args.name.now (view c.in-Ok.phrase) g.0 g.1 g.2 c.in-Ok.ensures.1)) c.module_of_phrase.ensures.answer

pub returns-in-Err-clause-answer : goal.returns-in-Err-clause-answer
returns-in-Err-clause-answer c =
    phrase_told c.args.source.now c.args.path.now c.args.name.now c.in-Err.fault c.phrase_fault.result c.in-Err.ensures c.phrase_fault.ensures
