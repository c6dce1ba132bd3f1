use Rattle.std.proofs.Common.{ap, subst, ◌∙◌}
use Rattle.std.specs.Option.{option_copied}
use Rattle.rl_exception.specs.Answer.{Answers}
use Rattle.rl_access.specs.Slices.{slice_of}
use Rattle.rl_access.proofs.SliceLemmas.{sliced}
use Rattle.rl_access.proofs.slices.slice.Goals as goal

pub returns-in-List : goal.returns-in-List
returns-in-List c =
    subst (λ a. Answers a c.sublist.result)
    (sliced c.in-List.items.now (option_copied c.args.from) (option_copied c.args.to)
    ∙ ap (λ t. slice_of t (option_copied c.args.from) (option_copied c.args.to)) c.in-List.ensures.value)
    c.sublist.ensures
