-- What is remembered.
use Rattle.std.specs.Prelude.{◌≡◌, ◌⊎◌, List}
use Rattle.std.specs.List.{IsAmong, All}
use Rattle.rl_phrase.specs.declared.memory.Entry.{Entry}

-- all that is remembered then was remembered before, but for one entry
abbrev pub IsOneMore : Entry → (old new : List Entry) → Type 0
IsOneMore entry old new = All (λ e. (e ≡ entry) ⊎ IsAmong old e) new
