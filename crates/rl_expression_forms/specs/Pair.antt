-- Pairs that adjoining parts of a phrase make.
use Rattle.std.specs.Prelude.{List, [], ◌∷◌, Option}
use Rattle.rl_forms.specs.declared.form.Form.{Form}
use Rattle.rl_forms.specs.Words.{put}

-- those that each part begins, in their order
abbrev pub pairs_in : {P : Type 0} → (List Form → Option P) → List Form → List P
pairs_in of_parts [] = []
pairs_in of_parts (part ∷ behind) = put (of_parts (part ∷ behind)) (pairs_in of_parts behind)
