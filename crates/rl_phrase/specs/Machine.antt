-- The machine's turns, without its memory.
use Rattle.std.specs.Prelude.{◌≡◌, ◌<◌, ℕ, zero, suc, ◌+◌, max, nat_eq, nat_lt, Bool, true, false, List, [], ◌∷◌, Option, Some, None, if◌then◌else◌, slice_get, length}
use Rattle.rl_tokens.specs.Token as lexed
use Rattle.rl_phrase.specs.Terminals.{Tokens, is_terminal}
use Rattle.rl_phrase.specs.declared.table.Rule.{Rule}
use Rattle.rl_phrase.specs.declared.table.Form.{Form}
use Rattle.rl_phrase.specs.declared.table.Form.TheVariants.{Term, Link, Named, Seq, Choice, Star, Plus, Opt, Not}
use Rattle.rl_phrase.specs.Tree.{Tree, Trees, Token, none, more}
use Rattle.rl_phrase.specs.Phr.{Outcome, Fails, Gives, node_of}

-- Trees are put together as a list, the newest first.
abbrev pub onto : Trees → List Tree → List Tree
onto none ps = ps
onto (more t ts) ps = onto ts (t ∷ ps)

-- such a list as trees, before others
abbrev pub turned_on : List Tree → Trees → Trees
turned_on [] us = us
turned_on (t ∷ ps) us = turned_on ps (more t us)

abbrev pub turned : List Tree → Trees
turned ps = turned_on ps none

-- What is to be done where a row has succeeded or failed. Rows go from the next or first one to the end, and
-- the token and the trees are those to go back to.
pub data Pending : Type 0 where
  Parts : (next end : ℕ) → Pending
  Choices : (next end at : ℕ) (parts : List Tree) → Pending
  -- a named row has begun; the trees and the furthest token are those before it
  Naming : (row from : ℕ) (parts : List Tree) (far : ℕ) → Pending
  Turns : (first end at : ℕ) (parts : List Tree) (must : Bool) → Pending
  Optional : (at : ℕ) (parts : List Tree) → Pending
  Negated : (at : ℕ) (parts : List Tree) → Pending

-- What is to be done now, the frames from the top, the trees of the row at hand, and how far it came.
pub data State : Type 0 where
  Calling : (row at : ℕ) (frames : List Pending) (parts : List Tree) (far : ℕ) → State
  Going : (at : ℕ) (frames : List Pending) (parts : List Tree) (far : ℕ) → State
  Failing : (frames : List Pending) (far : ℕ) → State

abbrev pub Next : Type 0
Next = List Pending → List Tree → ℕ → State

abbrev pub called_terminal : ℕ → ℕ → Option lexed.Token → Next
called_terminal kind at None frames parts far = Failing frames (max far at)
called_terminal kind at (Some t) frames parts far =
    if is_terminal t kind then Going (at + 1) frames (Token at ∷ parts) far
    else Failing frames (max far at)

abbrev pub called_form : Tokens → (row at : ℕ) → Form → (first count : ℕ) → Next
called_form tokens row at (Term kind) first count frames parts far = called_terminal kind at (slice_get tokens at) frames parts far
called_form tokens row at Link first count frames parts far = Calling first at frames parts far
called_form tokens row at Named first count frames parts far = Going at (Parts first (first + count) ∷ Naming row at parts far ∷ frames) [] 0
called_form tokens row at Seq first count frames parts far = Going at (Parts first (first + count) ∷ frames) parts far
called_form tokens row at Choice first count frames parts far = Failing (Choices first (first + count) at parts ∷ frames) far
called_form tokens row at Star first count frames parts far = Going at (Parts first (first + count) ∷ Turns first (first + count) at parts false ∷ frames) parts far
called_form tokens row at Plus first count frames parts far = Going at (Parts first (first + count) ∷ Turns first (first + count) at parts true ∷ frames) parts far
called_form tokens row at Opt first count frames parts far = Going at (Parts first (first + count) ∷ Optional at parts ∷ frames) parts far
called_form tokens row at Not first count frames parts far = Going at (Parts first (first + count) ∷ Negated at parts ∷ frames) parts far

abbrev pub called : Tokens → (row at : ℕ) → Option Rule → Next
called tokens row at None frames parts far = Failing frames far
called tokens row at (Some rule) frames parts far = called_form tokens row at rule.form rule.first rule.count frames parts far

abbrev pub next_part : ℕ → ℕ → ℕ → Next
next_part at next end frames parts far =
    if nat_lt next end then Calling next at (Parts (next + 1) end ∷ frames) parts far
    else Going at frames parts far

abbrev pub next_choice : ℕ → ℕ → ℕ → Next
next_choice next end at frames before far =
    if nat_lt next end then Calling next at (Choices (next + 1) end at before ∷ frames) before far
    else Failing frames far

abbrev pub succeeded : ℕ → Pending → Next
succeeded at (Parts next end) frames parts far = next_part at next end frames parts far
succeeded at (Choices next end back before) frames parts far = Going at frames parts far
succeeded at (Naming row from before m) frames parts far = Going at frames (node_of row from at (turned parts) ∷ before) (max m far)
succeeded at (Turns first end back before must) frames parts far =
    if nat_eq at back then Going at frames parts far
    else Going at (Parts first end ∷ Turns first end at parts false ∷ frames) parts far
succeeded at (Optional back before) frames parts far = Going at frames parts far
succeeded at (Negated back before) frames parts far = Failing frames far

abbrev pub failed : Pending → List Pending → ℕ → State
failed (Parts next end) frames far = Failing frames far
failed (Choices next end at before) frames far = next_choice next end at frames before far
failed (Naming row from before m) frames far = Failing frames (max m far)
failed (Turns first end at before must) frames far = if must then Failing frames far else Going at frames before far
failed (Optional at before) frames far = Going at frames before far
failed (Negated at before) frames far = Going at frames before far

-- one turn, if there is one
abbrev pub turn : Tokens → List Rule → State → Option State
turn tokens rules (Calling row at frames parts far) = Some (called tokens row at (slice_get rules row) frames parts far)
turn tokens rules (Going at [] parts far) = None
turn tokens rules (Going at (frame ∷ frames) parts far) = Some (succeeded at frame frames parts far)
turn tokens rules (Failing [] far) = None
turn tokens rules (Failing (frame ∷ frames) far) = Some (failed frame frames far)

-- a call counts as a frame
abbrev pub depth : State → ℕ
depth (Calling row at frames parts far) = suc (length frames)
depth (Going at frames parts far) = length frames
depth (Failing frames far) = length frames

-- so many turns from one state to another, each from a state that is deeper than the floor
abbrev pub Path : Tokens → List Rule → (n floor : ℕ) → State → State → Type 0
Path tokens rules zero floor c d = c ≡ d
Path tokens rules (suc n) floor c d = (floor < depth c) × ((next : State) × ((turn tokens rules c ≡ Some next) × Path tokens rules n floor next d))

-- where a row that has begun on these frames, trees and furthest token comes to
abbrev pub done : Outcome → List Pending → List Tree → ℕ → State
done (Fails f) frames parts far = Failing frames (max far f)
done (Gives ts next f) frames parts far = Going next frames (onto ts parts) (max far f)
