-- A rule says which forms are used, one after another, what is put out between them, and in which value it ends.
use Rattle.std.specs.Prelude.{ℕ, List}
use Rattle.rl_value.specs.Plain.{Plain}
use Rattle.rl_eval.specs.declared.form.Form.{Form}

pub data Rule : Type 0 where
  -- it ends in this value
  Give : Plain → Rule
  -- it uses a form, and goes on with the value of that form
  Use : Form → (Plain → Rule) → Rule
  -- it takes a member, and goes on under it
  Take : Rule → Rule
  -- it puts these bytes out, and goes on
  Put : List ℕ → Rule → Rule
