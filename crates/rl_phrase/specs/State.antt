-- A machine's state, and what a turn makes of it.
use Rattle.std.specs.Prelude.{◌≡◌, ℕ, ◌≤◌, suc, List, [], ◌∷◌, Option, Some, None, length}
use Rattle.rl_phrase.specs.Terminals.{Tokens}
use Rattle.rl_phrase.specs.declared.table.Rule.{Rule}
use Rattle.rl_phrase.specs.declared.arena.Cell.{Cell}
use Rattle.rl_phrase.specs.declared.memory.Given.{Given}
use Rattle.rl_phrase.specs.declared.memory.Given.TheVariants.{Failure, Success}
use Rattle.rl_phrase.specs.declared.memory.Entry.{Entry}
use Rattle.rl_phrase.specs.declared.turn.Frame.{Frame}
use Rattle.rl_phrase.specs.declared.turn.Frame.TheVariants as frame
use Rattle.rl_phrase.specs.declared.turn.Task.{Task}
use Rattle.rl_phrase.specs.declared.turn.Task.TheVariants.{Call, Succeed, Fail}
use Rattle.rl_phrase.specs.declared.turn.Built.{Built}
use Rattle.rl_phrase.specs.declared.turn.Built.TheVariants as built
use Rattle.rl_phrase.specs.declared.turn.Turn.{Turn}
use Rattle.rl_phrase.specs.declared.machine.Machine.{Machine}
use Rattle.rl_phrase.specs.Tree.{Tree, only}
use Rattle.rl_phrase.specs.Phr.{Outcome, Fails, Gives, Phr}
use Rattle.rl_phrase.specs.Machine.{Pending, Parts, Choices, Naming, Turns, Optional, Negated, State, Calling, Going, Failing, Path}
use Rattle.rl_phrase.specs.Arena.{parts_in, tree_in, IsWithin}

-- with trees in place of numbers of lists
abbrev pub frame_in : List Cell → Frame → Pending
frame_in cells (frame.Parts rest) = Parts rest.next rest.end
frame_in cells (frame.Choices rest mark) = Choices rest.next rest.end mark.at (parts_in cells mark.parts)
frame_in cells (frame.Naming row mark far) = Naming row mark.at (parts_in cells mark.parts) far
frame_in cells (frame.Turns rest mark must) = Turns rest.next rest.end mark.at (parts_in cells mark.parts) must
frame_in cells (frame.Optional mark) = Optional mark.at (parts_in cells mark.parts)
frame_in cells (frame.Negated mark) = Negated mark.at (parts_in cells mark.parts)

abbrev pub frames_in : List Cell → List Frame → List Pending
frames_in cells [] = []
frames_in cells (f ∷ fs) = frame_in cells f ∷ frames_in cells fs

abbrev pub state_in : Task → List Pending → List Tree → ℕ → State
state_in (Call row at) frames parts far = Calling row at frames parts far
state_in (Succeed at) frames parts far = Going at frames parts far
state_in Fail frames parts far = Failing frames far

abbrev pub state_of : Machine → State
state_of m = state_in m.task (frames_in m.arena m.frames) (parts_in m.arena m.parts) m.far

-- what a turn makes of a machine with these frames
abbrev pub pushed : List Cell → Option Frame → List Pending → List Pending
pushed cells None frames = frames
pushed cells (Some f) frames = frame_in cells f ∷ frames

abbrev pub built_in : List Cell → Built → List Tree
built_in cells (built.Same list) = parts_in cells list
built_in cells (built.More before item) = tree_in cells item ∷ parts_in cells before

abbrev pub after_turn : List Cell → Turn → List Pending → State
after_turn cells t frames = state_in t.task (pushed cells t.top (pushed cells t.under frames)) (built_in cells t.built) t.far

-- each list is among the first n
abbrev pub FrameWithin : ℕ → Frame → Type 0
FrameWithin n (frame.Parts rest) = Unit {0}
FrameWithin n (frame.Choices rest mark) = mark.parts ≤ n
FrameWithin n (frame.Naming row mark far) = mark.parts ≤ n
FrameWithin n (frame.Turns rest mark must) = mark.parts ≤ n
FrameWithin n (frame.Optional mark) = mark.parts ≤ n
FrameWithin n (frame.Negated mark) = mark.parts ≤ n

abbrev pub FramesWithin : ℕ → List Frame → Type 0
FramesWithin n [] = Unit {0}
FramesWithin n (f ∷ fs) = FrameWithin n f × FramesWithin n fs

abbrev pub SomeWithin : ℕ → Option Frame → Type 0
SomeWithin n None = Unit {0}
SomeWithin n (Some f) = FrameWithin n f

abbrev pub BuiltWithin : ℕ → Built → Type 0
BuiltWithin n (built.Same list) = list ≤ n
BuiltWithin n (built.More before item) = (before ≤ n) × IsWithin n item

abbrev pub TurnWithin : ℕ → Turn → Type 0
TurnWithin n t = SomeWithin n t.under × SomeWithin n t.top × BuiltWithin n t.built

abbrev pub GivenWithin : ℕ → Given → Type 0
GivenWithin n (Failure far) = Unit {0}
GivenWithin n (Success item next far) = IsWithin n item

-- what is remembered, as what a row gives
abbrev pub outcome_in : List Cell → Given → Outcome
outcome_in cells (Failure far) = Fails far
outcome_in cells (Success item next far) = Gives (only (tree_in cells item)) next far

abbrev pub IsRight : Tokens → List Rule → List Cell → Entry → Type 0
IsRight tokens rules cells entry = GivenWithin (length cells) entry.given × Phr tokens rules entry.row entry.at (outcome_in cells entry.given)

-- old lists stay as they are
abbrev pub Extends : (old new : List Cell) → Type 0
Extends old new = (length old ≤ length new) × ((list : ℕ) → list ≤ length old → parts_in new list ≡ parts_in old list)

-- no turn or more
abbrev pub Comes : Tokens → List Rule → State → State → Type 0
Comes tokens rules c d = (n : ℕ) × Path tokens rules n 0 c d

-- one turn or more
abbrev pub Leads : Tokens → List Rule → State → State → Type 0
Leads tokens rules c d = (n : ℕ) × Path tokens rules (suc n) 0 c d

abbrev pub with_some : Option Frame → List Frame → List Frame
with_some None frames = frames
with_some (Some f) frames = f ∷ frames
