-- What an arena holds stays when it grows.
use Rattle.std.proofs.Common.{◌≡◌, ℕ, List, [], ◌∷◌, length, Option, Some, None, refl, sym, ap, ◌∙◌, subst, arith}
use Rattle.std.specs.List.{All}
use Rattle.std.proofs.lemmas.List.Elements.{All-weaker}
use Rattle.rl_phrase.specs.Terminals.{Tokens}
use Rattle.rl_phrase.specs.declared.table.Rule.{Rule}
use Rattle.rl_phrase.specs.declared.arena.Item.{Item}
use Rattle.rl_phrase.specs.declared.arena.Item.TheVariants as item
use Rattle.rl_phrase.specs.declared.arena.Cell.{Cell}
use Rattle.rl_phrase.specs.declared.memory.Given.{Given}
use Rattle.rl_phrase.specs.declared.memory.Given.TheVariants.{Failure, Success}
use Rattle.rl_phrase.specs.declared.memory.Entry.{Entry}
use Rattle.rl_phrase.specs.declared.turn.Frame.{Frame}
use Rattle.rl_phrase.specs.declared.turn.Frame.TheVariants as frame
use Rattle.rl_phrase.specs.declared.turn.Task.{Task}
use Rattle.rl_phrase.specs.declared.turn.Built.{Built}
use Rattle.rl_phrase.specs.Tree.{Node, only}
use Rattle.rl_phrase.specs.Phr.{Gives, Phr}
use Rattle.rl_phrase.specs.Machine.{Choices, Naming, Turns, Optional, Negated, turned}
use Rattle.rl_phrase.specs.Arena.{parts_in, tree_in, IsWithin}
use Rattle.rl_phrase.specs.State.{frame_in, frames_in, state_in, pushed, built_in, outcome_in, with_some, FrameWithin, FramesWithin, SomeWithin, GivenWithin, IsRight, Extends}

module _ (old new : List Cell) (e : Extends old new) where
  tree_stays : (i : Item) → IsWithin (length old) i → tree_in new i ≡ tree_in old i
  tree_stays (item.Token t) w = refl
  tree_stays (item.Node r f t parts) w = ap (λ ps. Node r f t (turned ps)) (e.1 parts w)

  frame_stays : (f : Frame) → FrameWithin (length old) f → frame_in new f ≡ frame_in old f
  frame_stays (frame.Parts rest) w = refl
  frame_stays (frame.Choices rest mark) w = ap (λ ps. Choices rest.next rest.end mark.at ps) (e.1 mark.parts w)
  frame_stays (frame.Naming row mark far) w = ap (λ ps. Naming row mark.at ps far) (e.1 mark.parts w)
  frame_stays (frame.Turns rest mark must) w = ap (λ ps. Turns rest.next rest.end mark.at ps must) (e.1 mark.parts w)
  frame_stays (frame.Optional mark) w = ap (λ ps. Optional mark.at ps) (e.1 mark.parts w)
  frame_stays (frame.Negated mark) w = ap (λ ps. Negated mark.at ps) (e.1 mark.parts w)

  pub frames_stay : (fs : List Frame) → FramesWithin (length old) fs → frames_in new fs ≡ frames_in old fs
  frames_stay [] w = refl
  frames_stay (f ∷ fs) w = ap (λ x. x ∷ frames_in new fs) (frame_stays f w.0) ∙ ap (λ xs. frame_in old f ∷ xs) (frames_stay fs w.1)

  frame_within : (f : Frame) → FrameWithin (length old) f → FrameWithin (length new) f
  frame_within (frame.Parts rest) w = tt
  frame_within (frame.Choices rest mark) w = let le = e.0 in omega arith
  frame_within (frame.Naming row mark far) w = let le = e.0 in omega arith
  frame_within (frame.Turns rest mark must) w = let le = e.0 in omega arith
  frame_within (frame.Optional mark) w = let le = e.0 in omega arith
  frame_within (frame.Negated mark) w = let le = e.0 in omega arith

  pub frames_within : (fs : List Frame) → FramesWithin (length old) fs → FramesWithin (length new) fs
  frames_within [] w = tt
  frames_within (f ∷ fs) w = (frame_within f w.0, frames_within fs w.1)

  item_within : (i : Item) → IsWithin (length old) i → IsWithin (length new) i
  item_within (item.Token t) w = tt
  item_within (item.Node r f t parts) w = let le = e.0 in omega arith

  module _ (tokens : Tokens) (rules : List Rule) where
    right_stays : (entry : Entry) → IsRight tokens rules old entry → IsRight tokens rules new entry
    right_stays entry r = by_given entry.given r
      where
        by_given : (g : Given) → GivenWithin (length old) g × Phr tokens rules entry.row entry.at (outcome_in old g) → GivenWithin (length new) g × Phr tokens rules entry.row entry.at (outcome_in new g)
        by_given (Failure far) r = r
        by_given (Success i next far) r = (item_within i r.0, subst (λ t. Phr tokens rules entry.row entry.at (Gives (only t) next far)) (sym (tree_stays i r.0)) r.1)

    pub memory_stays : (memory : List Entry) → All (IsRight tokens rules old) memory → All (IsRight tokens rules new) memory
    memory_stays memory a = All-weaker (IsRight tokens rules old) (IsRight tokens rules new) right_stays memory a

some_within : (n : ℕ) (o : Option Frame) (fs : List Frame) → SomeWithin n o → FramesWithin n fs → FramesWithin n (with_some o fs)
some_within n None fs s w = w
some_within n (Some f) fs s w = (s, w)

frames_with : (cells : List Cell) (o : Option Frame) (fs : List Frame) → frames_in cells (with_some o fs) ≡ pushed cells o (frames_in cells fs)
frames_with cells None fs = refl
frames_with cells (Some f) fs = refl

pub all_within : (n : ℕ) (under top : Option Frame) (fs : List Frame) → SomeWithin n under → SomeWithin n top → FramesWithin n fs → FramesWithin n (with_some top (with_some under fs))
all_within n under top fs u t w = some_within n top (with_some under fs) t (some_within n under fs u w)

-- the state after a turn
pub taken : (old new : List Cell) → Extends old new → (task : Task) (under top : Option Frame) (built : Built) (far list : ℕ) (fs : List Frame)
    → SomeWithin (length old) under → SomeWithin (length old) top → FramesWithin (length old) fs → parts_in new list ≡ built_in old built
    → state_in task (frames_in new (with_some top (with_some under fs))) (parts_in new list) far ≡ state_in task (pushed old top (pushed old under (frames_in old fs))) (built_in old built) far
taken old new e task under top built far list fs u t w p =
    ap (λ xs. state_in task xs (parts_in new list) far)
    (frames_stay old new e (with_some top (with_some under fs)) (all_within (length old) under top fs u t w) ∙ frames_with old top (with_some under fs) ∙ ap (λ xs. pushed old top xs) (frames_with old under fs))
    ∙ ap (λ ps. state_in task (pushed old top (pushed old under (frames_in old fs))) ps far) p
