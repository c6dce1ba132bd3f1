-- A machine whose lists are there and whose memory is right.
use Rattle.std.specs.Prelude.{◌≡◌, ℕ, ◌≤◌, List, Bool, true, false, Option, Some, None, length}
use Rattle.std.specs.List.{All}
use Rattle.rl_phrase.specs.Terminals.{Tokens}
use Rattle.rl_phrase.specs.declared.table.Rule.{Rule}
use Rattle.rl_phrase.specs.declared.arena.Item.{Item}
use Rattle.rl_phrase.specs.declared.arena.Cell.{Cell}
use Rattle.rl_phrase.specs.declared.memory.Given.TheVariants.{Failure, Success}
use Rattle.rl_phrase.specs.declared.memory.Entry.{Entry}
use Rattle.rl_phrase.specs.declared.turn.Frame.{Frame}
use Rattle.rl_phrase.specs.declared.turn.Frame.TheVariants.{Parts, Choices, Naming, Turns, Optional, Negated}
use Rattle.rl_phrase.specs.declared.turn.Turn.{Turn}
use Rattle.rl_phrase.specs.declared.machine.Machine.{Machine}
use Rattle.rl_phrase.specs.Phr.{node_of}
use Rattle.rl_phrase.specs.Machine.{turned, turn}
use Rattle.rl_phrase.specs.Arena.{parts_in, tree_in, IsWithin}
use Rattle.rl_phrase.specs.Memory.{IsOneMore}
use Rattle.rl_phrase.specs.State.{state_of, frames_in, after_turn, FramesWithin, TurnWithin, IsRight, Leads}
use Rattle.rl_phrase.specs.Awaits.{IsOnTheWay}

pub record Stands (tokens : Tokens) (rules : List Rule) (m : Machine) : Type 0 where
  pub list : m.parts ≤ length m.arena
  pub frames : FramesWithin (length m.arena) m.frames
  pub memory : All (IsRight tokens rules m.arena) m.memory
  pub way : IsOnTheWay tokens rules (state_of m)

-- what is remembered of a row that has succeeded
abbrev pub RemembersSuccess : List Cell → Frame → (parts at far : ℕ) → (old new : List Entry) → Type 0
RemembersSuccess cells (Naming row mark before) parts at far old new =
    (item : Item) × IsWithin (length cells) item × (tree_in cells item ≡ node_of row mark.at at (turned (parts_in cells parts)))
    × IsOneMore (record { row = row; at = mark.at; given = Success item at far }) old new
RemembersSuccess cells (Parts rest) parts at far old new = new ≡ old
RemembersSuccess cells (Choices rest mark) parts at far old new = new ≡ old
RemembersSuccess cells (Turns rest mark must) parts at far old new = new ≡ old
RemembersSuccess cells (Optional mark) parts at far old new = new ≡ old
RemembersSuccess cells (Negated mark) parts at far old new = new ≡ old

-- and of one that has failed
abbrev pub RemembersFailure : Frame → (far : ℕ) → (old new : List Entry) → Type 0
RemembersFailure (Naming row mark before) far old new = IsOneMore (record { row = row; at = mark.at; given = Failure far }) old new
RemembersFailure (Parts rest) far old new = new ≡ old
RemembersFailure (Choices rest mark) far old new = new ≡ old
RemembersFailure (Turns rest mark must) far old new = new ≡ old
RemembersFailure (Optional mark) far old new = new ≡ old
RemembersFailure (Negated mark) far old new = new ≡ old

-- the turn is there to be taken, or the machine is at its end
pub record IsReady (tokens : Tokens) (rules : List Rule) (old new : Machine) (t : Turn) : Type 0 where
  pub list : new.parts ≤ length new.arena
  pub frames : FramesWithin (length new.arena) new.frames
  pub within : TurnWithin (length new.arena) t
  pub memory : All (IsRight tokens rules new.arena) new.memory
  pub leads : Leads tokens rules (state_of old) (after_turn new.arena t (frames_in new.arena new.frames))

abbrev pub IsPrepared : Tokens → List Rule → (old new : Machine) → Option Turn → Type 0
IsPrepared tokens rules old new (Some t) = IsReady tokens rules old new t
IsPrepared tokens rules old new None = (turn tokens rules (state_of old) ≡ None) × Stands tokens rules new × (state_of new ≡ state_of old)

-- it has gone on, or it was at the end
abbrev pub HasTurned : Tokens → List Rule → (old new : Machine) → Bool → Type 0
HasTurned tokens rules old new true = Leads tokens rules (state_of old) (state_of new)
HasTurned tokens rules old new false = (turn tokens rules (state_of old) ≡ None) × (state_of new ≡ state_of old)
