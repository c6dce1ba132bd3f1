-- What a run leaves behind, against what it means.
use Rattle.std.specs.Prelude.{◌≡◌, ◌⊎◌, ℕ, ◌+◌, ◌<◌, List, length, take}
use Rattle.rl_base.specs.Asked.{Asked, asked_after}
use Rattle.rl_base.specs.Told.{Told, Grows, TakesPart}
use Rattle.rl_main.specs.declared.status.Status.{Status}
use Rattle.rl_main.specs.declared.status.Status.TheVariants.{ModuleFault, FileFault, SinkFault, OutOfMemory, Budget}
use Rattle.rl_syntax.specs.declared.fault.Fault.{Fault}
use Rattle.rl_main.specs.Lines.{fault_line, budget_line}
use Rattle.rl_main.specs.Meaning.{Meaning}

-- The status and what was put on both sinks are those that are meant. After a failed read, or for want of memory, a front of what is meant was put on out and nothing on err. After a failed put it is so too, or all of out was put and a front of err.
abbrev pub Headline : Meaning → Status → Told → Told → Told → Told → Type 0
Headline m FileFault out out' err err' = TakesPart out m.out out' × (err' ≡ err)
Headline m OutOfMemory out out' err err' = TakesPart out m.out out' × (err' ≡ err)
Headline m SinkFault out out' err err' = (TakesPart out m.out out' × (err' ≡ err)) ⊎ (Grows out m.out out' × TakesPart err m.err err')
Headline m status out out' err err' = (status ≡ m.status) × Grows out m.out out' × Grows err m.err err'

-- The line of a status was put on err, or not all of it where the put failed, or nothing for want of memory.
abbrev pub PutsLine : List ℕ → (told : Status) → Status → Told → Told → Type 0
PutsLine line told SinkFault err err' = TakesPart err line err'
PutsLine line told OutOfMemory err err' = err' ≡ err
PutsLine line told status err err' = (status ≡ told) × Grows err line err'

-- a fault of a module was told
abbrev pub Refuses : Fault → Status → Told → Told → Type 0
Refuses fault status err err' = PutsLine (fault_line fault) ModuleFault status err err'

-- the end of a budget was told
abbrev pub TellsBudget : (units : ℕ) → Status → Told → Told → Type 0
TellsBudget units status err err' = PutsLine (budget_line units) Budget status err err'

-- Which of the paths that are meant were asked for: all of them. After a failed read, they are those up to that of this read, and for want of memory a front of them.
abbrev pub AsksFor : List (List ℕ) → Status → Asked → Asked → Type 0
AsksFor paths FileFault asked asked' = (last : ℕ) × (last < length paths) × (asked' ≡ asked_after asked (take (last + 1) paths))
AsksFor paths OutOfMemory asked asked' = (count : ℕ) × (asked' ≡ asked_after asked (take count paths))
AsksFor paths status asked asked' = asked' ≡ asked_after asked paths
