-- What files were asked for, where they say so.
use Rattle.std.specs.Prelude.{◌≡◌, ℕ, List, [], ◌∷◌, ◌++◌, ◌⊎◌, Option, Some, None, Result, Err}
use Rattle.std.specs.declared.vec.Vec.{Vec}
use Rattle.std.specs.declared.alloc.Global.{Global}
use Rattle.rl_base.specs.declared.files.ReadEnd.{ReadEnd}
use Rattle.rl_base.specs.declared.files.ReadEnd.TheVariants.{OutOfMemory}

-- the paths of the reads, in order
abbrev pub Asked : Type 0
Asked = Option (List (List ℕ))

-- what they were asked for after these reads too
abbrev pub asked_after : Asked → List (List ℕ) → Asked
asked_after None paths = None
asked_after (Some before) paths = Some (before ++ paths)

-- one more read is told, whatever it answers; for want of memory it may be left out
abbrev pub AsksFor : Asked → List ℕ → Result (Vec ℕ Global) ReadEnd → Asked → Type 0
AsksFor before path (Err OutOfMemory) after = (after ≡ asked_after before (path ∷ [])) ⊎ (after ≡ before)
AsksFor before path result after = after ≡ asked_after before (path ∷ [])
