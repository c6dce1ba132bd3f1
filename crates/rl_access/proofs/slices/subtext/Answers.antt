use Rattle.std.proofs.Common.{◌≡◌, ap, sym, subst, ◌∙◌, Ok, Err}
use Rattle.std.specs.Option.{option_copied}
use Rattle.rl_value.specs.Plain.{text}
use Rattle.rl_access.specs.Slices.{cut_of, Finds}
use Rattle.rl_access.proofs.SliceLemmas.{cut_ends, cut_gives}
use Rattle.rl_access.proofs.slices.subtext.Goals as goal

pub returns-in_ok-found-in-Ok : goal.returns-in_ok-found-in-Ok
returns-in_ok-found-in-Ok c =
    cut_gives _ _ (c.in-Ok.start, c.in-Ok.end) _ c.fitted_text.result
    (subst (λ n. cut_of n (option_copied c.args.from) (option_copied c.args.to) ≡ Ok (c.in-Ok.start, c.in-Ok.end)) c.character_count.ensures c.in-Ok.ensures.found)
    (ap text (sym (c.as_str.ensures.value ∙ c.in_ok-found-in-Ok.ensures))) c.fitted_text.ensures

pub returns-in-Err : goal.returns-in-Err
returns-in-Err c =
    cut_ends _ _ c.in-Err.end
    (subst (λ n. Finds (cut_of n (option_copied c.args.from) (option_copied c.args.to)) (Err c.in-Err.end)) c.character_count.ensures c.in-Err.ensures.found)
