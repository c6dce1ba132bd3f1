-- Words among the parts of a phrase.
use Rattle.std.specs.Prelude.{ℕ, ◌==◌, Bool, false, List, ◌∷◌, Option, Some, None, slice_get, option_and_then}
use Rattle.std.specs.List.{list_any, before_first, after_first}
use Rattle.rl_forms.specs.declared.form.Form.{Form}
use Rattle.rl_forms.specs.declared.form.Form.TheVariants as f

-- a token of the terminal
abbrev pub is_word : ℕ → Form → Bool
is_word terminal (f.Word place word) = word == terminal
is_word terminal _ = false

abbrev pub as_word : Form → Option ℕ
as_word (f.Word place word) = Some word
as_word _ = None

-- the terminal at a place among the parts
unfoldable pub word_at : List Form → ℕ → Option ℕ
word_at parts at = option_and_then as_word (slice_get parts at)

abbrev pub has_word : ℕ → List Form → Bool
has_word terminal parts = list_any (is_word terminal) parts

-- the parts before the first token of the terminal, and those behind it
unfoldable pub before_word : ℕ → List Form → List Form
before_word terminal parts = before_first (is_word terminal) parts

unfoldable pub behind_word : ℕ → List Form → List Form
behind_word terminal parts = after_first (is_word terminal) parts

-- an element before others, if there is one
abbrev pub put : {X : Type 0} → Option X → List X → List X
put None xs = xs
put (Some x) xs = x ∷ xs
