use Rattle.std.proofs.Common.{ap, sym}
use Rattle.rl_value.specs.Plain.{list, plains_of}
use Rattle.rl_access.proofs.SliceLemmas.{cut_ends, cut_gives}
use Rattle.rl_access.proofs.slices.sublist.Goals as goal

pub returns-in_ok-found-in-Ok : goal.returns-in_ok-found-in-Ok
returns-in_ok-found-in-Ok c =
    cut_gives _ _ (c.in-Ok.start, c.in-Ok.end) _ c.fitted_list.result c.in-Ok.ensures.found (ap (λ us. list (plains_of us)) (sym c.in_ok-found-in-Ok.ensures)) c.fitted_list.ensures

pub returns-in-Err : goal.returns-in-Err
returns-in-Err c = cut_ends _ _ c.in-Err.end c.in-Err.ensures.found
