-- What a turn keeps.
use Rattle.std.proofs.Common.{◌≡◌, ℕ, ◌<◌, ◌⊎◌, List, [], ◌∷◌, Some, refl, sym, subst, ⊎_elim}
use Rattle.std.specs.List.{All, IsAmong}
use Rattle.std.proofs.lemmas.List.Elements.{All-nil, All-weaker, All-contains}
use Rattle.rl_phrase.specs.Terminals.{Tokens}
use Rattle.rl_phrase.specs.declared.table.Rule.{Rule}
use Rattle.rl_phrase.specs.declared.arena.Cell.{Cell}
use Rattle.rl_phrase.specs.declared.memory.Given.TheVariants.{Failure, Success}
use Rattle.rl_phrase.specs.declared.memory.Entry.{Entry}
use Rattle.rl_phrase.specs.declared.turn.Frame.{Frame}
use Rattle.rl_phrase.specs.declared.turn.Frame.TheVariants as frame
use Rattle.rl_phrase.specs.Tree.{only}
use Rattle.rl_phrase.specs.Phr.{Gives, Phr}
use Rattle.rl_phrase.specs.Machine.{Pending, State, Going, Failing, turn, depth}
use Rattle.rl_phrase.specs.Arena.{parts_in}
use Rattle.rl_phrase.specs.Memory.{IsOneMore}
use Rattle.rl_phrase.specs.State.{frame_in, IsRight, Leads}
use Rattle.rl_phrase.specs.Awaits.{IsOnTheWay}
use Rattle.rl_phrase.specs.Stands.{RemembersSuccess, RemembersFailure}
use Rattle.rl_phrase.proofs.Ways.{right_success, right_failure}

module _ (tokens : Tokens) (rules : List Rule) where
  pub one_turn : (c d : State) → 0 < depth c → turn tokens rules c ≡ Some d → Leads tokens rules c d
  one_turn c d lt e = (0, (lt, (d, (e, refl))))

  pub remembered : (cells : List Cell) (memory : List Entry) (entry : Entry) → All (IsRight tokens rules cells) memory → IsAmong memory entry → IsRight tokens rules cells entry
  remembered cells memory entry a h = All-contains (IsRight tokens rules cells) memory entry a (h.0, h.1.0, sym h.1.1)

  one_more : (cells : List Cell) (entry : Entry) (old new : List Entry) → All (IsRight tokens rules cells) old → IsRight tokens rules cells entry → IsOneMore entry old new → All (IsRight tokens rules cells) new
  one_more cells entry old new a r more =
      All-weaker (λ e. (e ≡ entry) ⊎ IsAmong old e) (IsRight tokens rules cells)
      (λ e h. ⊎_elim (λ (q : e ≡ entry). subst (λ x. IsRight tokens rules cells x) (sym q) r) (λ (q : IsAmong old e). remembered cells old e a q) h) new more

  same_memory : (cells : List Cell) (old new : List Entry) → All (IsRight tokens rules cells) old → new ≡ old → All (IsRight tokens rules cells) new
  same_memory cells old new a e = subst (λ m. All (IsRight tokens rules cells) m) (sym e) a

  pub forgotten : (cells : List Cell) (old new : List Entry) → All (IsRight tokens rules cells) old → (new ≡ old) ⊎ (new ≡ []) → All (IsRight tokens rules cells) new
  forgotten cells old new a h =
      ⊎_elim (λ (e : new ≡ old). same_memory cells old new a e)
      (λ (e : new ≡ []). subst (λ m. All (IsRight tokens rules cells) m) (sym e) (All-nil _)) h

  pub memory_success : (cells : List Cell) (old new : List Entry) (f : Frame) (parts at far : ℕ) (fs : List Pending) → All (IsRight tokens rules cells) old
      → IsOnTheWay tokens rules (Going at (frame_in cells f ∷ fs) (parts_in cells parts) far) → RemembersSuccess cells f parts at far old new → All (IsRight tokens rules cells) new
  memory_success cells old new (frame.Naming row mark before) parts at far fs a way r =
      one_more cells (record { row = row; at = mark.at; given = Success r.0 at far }) old new a
      (r.1, subst (λ t. Phr tokens rules row mark.at (Gives (only t) at far)) (sym r.2) (right_success tokens rules row mark.at at (parts_in cells mark.parts) (parts_in cells parts) before far fs way)) r.3
  memory_success cells old new (frame.Parts rest) parts at far fs a way r = same_memory cells old new a r
  memory_success cells old new (frame.Choices rest mark) parts at far fs a way r = same_memory cells old new a r
  memory_success cells old new (frame.Turns rest mark must) parts at far fs a way r = same_memory cells old new a r
  memory_success cells old new (frame.Optional mark) parts at far fs a way r = same_memory cells old new a r
  memory_success cells old new (frame.Negated mark) parts at far fs a way r = same_memory cells old new a r

  pub memory_failure : (cells : List Cell) (old new : List Entry) (f : Frame) (far : ℕ) (fs : List Pending) → All (IsRight tokens rules cells) old
      → IsOnTheWay tokens rules (Failing (frame_in cells f ∷ fs) far) → RemembersFailure f far old new → All (IsRight tokens rules cells) new
  memory_failure cells old new (frame.Naming row mark before) far fs a way r =
      one_more cells (record { row = row; at = mark.at; given = Failure far }) old new a (tt, right_failure tokens rules row mark.at (parts_in cells mark.parts) before far fs way) r
  memory_failure cells old new (frame.Parts rest) far fs a way r = same_memory cells old new a r
  memory_failure cells old new (frame.Choices rest mark) far fs a way r = same_memory cells old new a r
  memory_failure cells old new (frame.Turns rest mark must) far fs a way r = same_memory cells old new a r
  memory_failure cells old new (frame.Optional mark) far fs a way r = same_memory cells old new a r
  memory_failure cells old new (frame.Negated mark) far fs a way r = same_memory cells old new a r
