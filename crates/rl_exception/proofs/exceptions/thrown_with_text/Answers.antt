use Rattle.std.proofs.Common.{[], refl, Err}
use Rattle.rl_value.specs.Plain.{text}
use Rattle.rl_exception.proofs.FittingLemmas.{first_large, large, throws_large}
use Rattle.rl_exception.proofs.exceptions.thrown_with_text.Goals as goal

pub returns-in-Err-TooLarge : goal.returns-in-Err-TooLarge
returns-in-Err-TooLarge c =
    throws_large _ c.too_large.result
    (first_large c.args.name.now (text c.args.message.now) []
    (large _ (Err c.in-Err-TooLarge.field-0) c.in-Err-TooLarge.field-0 refl c.in-Err-TooLarge.field-0-is c.in-Err-TooLarge.ensures))
    c.too_large.ensures
