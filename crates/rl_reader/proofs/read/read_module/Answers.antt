use Rattle.std.proofs.Common.{◌≡◌, ℕ, List, Err, sym, subst}
use Rattle.rl_base.specs.Decode.{Reads, text_of}
use Rattle.rl_base.specs.declared.decode.TextFault.{TextFault}
use Rattle.rl_reader.specs.Read.{Answers}
use Rattle.rl_reader.proofs.Texts.{not_utf8, utf8}
use Rattle.rl_reader.proofs.read.read_module.Goals as goal

read_as : (bytes : List ℕ) (found fault : TextFault) → found ≡ fault → Reads (text_of bytes) (Err found) → Reads (text_of bytes) (Err fault)
read_as bytes found fault e h = subst (λ f. Reads (text_of bytes) (Err f)) e h

pub returns-in-Ok-clause-answer : goal.returns-in-Ok-clause-answer
returns-in-Ok-clause-answer c =
    let same = utf8 c.args.number c.args.path.now c.args.name.now c.args.bytes.now c.in-Ok.text c.in-Ok.ensures in
    subst (λ r. Answers r c.module_of_text.result) (sym same) c.module_of_text.ensures.answer

pub returns-in-Err-NotUtf8-clause-answer : goal.returns-in-Err-NotUtf8-clause-answer
returns-in-Err-NotUtf8-clause-answer c =
    not_utf8 c.args.number c.args.path.now c.args.name.now c.args.bytes.now c.in-Err-NotUtf8.offset c.utf8_fault.result (read_as c.args.bytes.now _ _ c.in-Err-NotUtf8.field-0-is c.in-Err-NotUtf8.ensures) c.utf8_fault.ensures
