use Rattle.std.proofs.Common.{[], refl, Err}
use Rattle.rl_value.specs.Plain.{text}
use Rattle.rl_exception.proofs.FittingLemmas.{second_large, large, throws_large}
use Rattle.rl_exception.proofs.exceptions.ambiguity.Goals as goal

pub returns-in-Err-TooLarge : goal.returns-in-Err-TooLarge
returns-in-Err-TooLarge c =
    throws_large _ c.too_large.result
    (second_large _ c.args.place.now (text c.args.sort.now) []
    (large _ (Err c.in-Err-TooLarge.field-0) c.in-Err-TooLarge.field-0 refl c.in-Err-TooLarge.field-0-is c.in-Err-TooLarge.ensures))
    c.too_large.ensures
