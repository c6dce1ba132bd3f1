-- dup.
use Rattle.std.specs.Prelude.{Bool, List, [], ◌∷◌, ◌++◌, if◌then◌else◌}
use Rattle.std.specs.List.{list_any}
use Rattle.rl_value.specs.Plain.{Plain}
use Rattle.rl_value.specs.Laws.{plain_eq}
use Rattle.rl_exception.specs.Answer.{Answer, fitting}
use Rattle.rl_arguments.specs.Arguments.{taking, list_in, list_of}

abbrev pub is_among : List Plain → Plain → Bool
is_among seen t = list_any (λ u. plain_eq u t) seen

-- the elements that were not seen before, each at its first place
abbrev pub firsts : List Plain → List Plain → List Plain
firsts seen [] = []
firsts seen (t ∷ ts) = if is_among seen t then firsts seen ts else t ∷ firsts (seen ++ t ∷ []) ts

abbrev pub dup_of : Plain → Answer
dup_of t = taking (list_in t) (λ ts. fitting (list_of (firsts [] ts)))
