use Rattle.std.proofs.Common.{refl, Err}
use Rattle.rl_exception.proofs.FittingLemmas.{thrown, large, throws_large}
use Rattle.rl_exception.proofs.exceptions.thrown_node.Goals as goal

pub returns-in-Ok : goal.returns-in-Ok
returns-in-Ok c = thrown _ c.in-Ok.exception c.in-Ok.ensures

pub returns-in-Err-TooLarge : goal.returns-in-Err-TooLarge
returns-in-Err-TooLarge c =
    throws_large _ c.too_large.result
    (large _ (Err c.in-Err-TooLarge.field-0) c.in-Err-TooLarge.field-0 refl c.in-Err-TooLarge.field-0-is c.in-Err-TooLarge.ensures) c.too_large.ensures
