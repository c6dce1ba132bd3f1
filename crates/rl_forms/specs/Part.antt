-- Parts of a phrase by what they are.
use Rattle.std.specs.Prelude.{◌≡◌, ℕ, List, [], ◌∷◌, Option, Some, None, Result, Ok, Err, slice_get, option_and_then}
use Rattle.rl_forms.specs.declared.form.Form.{Form}
use Rattle.rl_forms.specs.declared.part.FormError.{FormError}
use Rattle.rl_forms.specs.declared.part.FormError.TheVariants.{Missing, OutOfMemory}

-- the answer is that one, unless memory is wanting
abbrev pub Gives : {T : Type 0} → Option T → Result T FormError → Type 0
Gives meant (Ok x) = meant ≡ Some x
Gives meant (Err Missing) = meant ≡ None
Gives meant (Err OutOfMemory) = Unit {0}

-- what follows from a part, where it is there
abbrev pub given : {A B : Type 0} → Option A → (A → Option B) → Option B
given None go = None
given (Some x) go = go x

-- the first, or else the other
abbrev pub or_else : {T : Type 0} → Option T → Option T → Option T
or_else (Some x) other = Some x
or_else None other = other

-- what is made of a part, by what a form is
module _ {P : Type 0} (of_form : Form → Option P) where
  -- the part at a place
  unfoldable pub part_at : List Form → ℕ → Option P
  part_at parts at = option_and_then of_form (slice_get parts at)

  -- the first part of the kind
  abbrev pub first_in : List Form → Option P
  first_in [] = None
  first_in (part ∷ parts) = or_else (of_form part) (first_in parts)

  -- the last one
  abbrev pub last_in : List Form → Option P
  last_in [] = None
  last_in (part ∷ parts) = or_else (last_in parts) (of_form part)
