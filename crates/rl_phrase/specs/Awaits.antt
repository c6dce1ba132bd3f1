-- A machine that is on the way to what its rows give.
use Rattle.std.specs.Prelude.{ℕ, suc, List, [], ◌∷◌, length}
use Rattle.rl_phrase.specs.Terminals.{Tokens}
use Rattle.rl_phrase.specs.declared.table.Rule.{Rule}
use Rattle.rl_phrase.specs.Tree.{Tree, only}
use Rattle.rl_phrase.specs.Phr.{Outcome, Fails, Gives, Phr, node_of}
use Rattle.rl_phrase.specs.Machine.{Pending, Parts, Choices, Naming, Turns, Optional, Negated, State, Calling, Going, Failing, Path, done}

-- what a named row gives whose parts give this
abbrev pub named_outcome : (row from : ℕ) → Outcome → Outcome
named_outcome row from (Fails far) = Fails far
named_outcome row from (Gives trees to far) = Gives (only (node_of row from to trees)) to far

-- the machine comes to what the parts of a named row give, and the row gives its node
pub record Awaited (tokens : Tokens) (rules : List Rule) (c : State) (row from : ℕ) (parts : List Tree) (far : ℕ) (frames : List Pending) : Type 0 where
  pub parts_give : Outcome
  pub means : Phr tokens rules row from (named_outcome row from parts_give)
  pub turns : ℕ
  pub path : Path tokens rules turns (suc (length frames)) c (done parts_give (Naming row from parts far ∷ frames) [] 0)

-- it does so for each named row that has begun
abbrev pub Awaits : Tokens → List Rule → State → List Pending → Type 0
Awaits tokens rules c [] = Unit {0}
Awaits tokens rules c (Naming row from parts far ∷ frames) = Awaited tokens rules c row from parts far frames × Awaits tokens rules c frames
Awaits tokens rules c (Parts next end ∷ frames) = Awaits tokens rules c frames
Awaits tokens rules c (Choices next end at parts ∷ frames) = Awaits tokens rules c frames
Awaits tokens rules c (Turns first end at parts must ∷ frames) = Awaits tokens rules c frames
Awaits tokens rules c (Optional at parts ∷ frames) = Awaits tokens rules c frames
Awaits tokens rules c (Negated at parts ∷ frames) = Awaits tokens rules c frames

abbrev pub frames_of : State → List Pending
frames_of (Calling row at frames parts far) = frames
frames_of (Going at frames parts far) = frames
frames_of (Failing frames far) = frames

abbrev pub IsOnTheWay : Tokens → List Rule → State → Type 0
IsOnTheWay tokens rules c = Awaits tokens rules c (frames_of c)
