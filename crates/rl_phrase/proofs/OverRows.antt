-- Where a machine comes to that passes over rows.
use Rattle.std.proofs.Common.{◌≡◌, ℕ, zero, suc, ◌+◌, ◌-◌, ◌<◌, ◌≤◌, ◌⊎◌, max, nat_lt, Bool, true, false, cond, List, ◌∷◌, Some, refl, sym, ap, ◌∙◌, subst, ⊎_elim, arith}
use Rattle.std.specs.Prelude.{slice_get}
use Rattle.std.proofs.lemmas.Bool.{le-ltb, lt-ltb}
use Rattle.rl_phrase.specs.Terminals.{Tokens}
use Rattle.rl_phrase.specs.declared.arena.Cell.{Cell}
use Rattle.rl_phrase.specs.declared.table.Rule.{Rule}
use Rattle.rl_phrase.specs.declared.table.Form.{Form}
use Rattle.rl_phrase.specs.declared.table.Form.TheVariants.{Star, Opt}
use Rattle.rl_phrase.specs.declared.firsts.First.{First}
use Rattle.rl_phrase.specs.declared.turn.Frame.{Frame}
use Rattle.rl_phrase.specs.declared.turn.Frame.TheVariants as frame
use Rattle.rl_phrase.specs.Tree.{Tree, none}
use Rattle.rl_phrase.specs.Phr.{Fails, Gives, Meaning, Phr, and_then, in_turn, again, optional, of_form, of_rule, phr}
use Rattle.rl_phrase.specs.LeftRecursion.{HasNoLeftRecursion}
use Rattle.rl_phrase.specs.Firsts.{AreFirsts, CannotBegin}
use Rattle.rl_phrase.specs.Lookahead.{IsOptional, PassesOver, tried}
use Rattle.rl_phrase.specs.Machine.{Pending, Choices, State, Calling, Failing, turn, Path}
use Rattle.rl_phrase.specs.Arena.{parts_in}
use Rattle.rl_phrase.specs.State.{frame_in, Comes, Leads}
use Rattle.rl_phrase.proofs.Follows.{path_on}
use Rattle.rl_phrase.proofs.Ways.{jumps}
use Rattle.rl_phrase.proofs.PassedOver.{passed_over}

module _ (tokens : Tokens) (rules : List Rule) where
  pub stays : (c d : State) → c ≡ d → Comes tokens rules c d
  stays c d e = (0, e)

  pub then_leads : (c d e : State) → Comes tokens rules c d → Leads tokens rules d e → Leads tokens rules c e
  then_leads c d e p q =
      let n : p.0 + suc q.0 ≡ suc (p.0 + q.0) = omega arith in
      (p.0 + q.0, subst (λ n. Path tokens rules n 0 c e) n (path_on tokens rules p.0 (suc q.0) 0 c d e p.1 q.1))

  pub leads_then : (c d e : State) → Leads tokens rules c d → Comes tokens rules d e → Leads tokens rules c e
  leads_then c d e p q =
      let n : suc p.0 + q.0 ≡ suc (p.0 + q.0) = omega arith in
      (p.0 + q.0, subst (λ n. Path tokens rules n 0 c e) n (path_on tokens rules (suc p.0) q.0 0 c d e p.1 q.1))

  module _ (firsts : List First) (no_recursion : HasNoLeftRecursion rules) (are : AreFirsts rules firsts) where
    past : (k next to end at : ℕ) (ps : List Tree) (fs : List Pending) (far : ℕ) → to ≡ next + k → ((row : ℕ) → next ≤ row → row < to → (row < end) × CannotBegin tokens firsts row at)
        → Comes tokens rules (Failing (Choices next end at ps ∷ fs) far) (Failing (Choices to end at ps ∷ fs) (tried at next to far))
    past zero next to end at ps fs far e rows =
        let same : next ≡ to = omega (arith, e) in
        let none_tried : far ≡ tried at next to far = sym (ap (λ b. cond b (max far at) far) (le-ltb next to (omega (arith, e)))) in
        stays _ _ (ap (λ n. Failing (Choices n end at ps ∷ fs) far) same ∙ ap (λ f. Failing (Choices to end at ps ∷ fs) f) none_tried)
    past (suc k) next to end at ps fs far e rows =
        let one = rows next (omega arith) (omega (arith, e)) in
        let left : List Pending = Choices (next + 1) end at ps ∷ fs in
        let from : State = Failing (Choices next end at ps ∷ fs) far in
        let calls : turn tokens rules from ≡ Some (Calling next at left ps far) = ap (λ b. Some (cond b (Calling next at left ps far) (Failing fs far))) (lt-ltb next end one.0) in
        let fails : Leads tokens rules (Calling next at left ps far) (Failing left (max far at)) =
        jumps tokens rules next at (Fails at) (passed_over tokens rules firsts next at no_recursion are one.1) left ps far in
        let rest = past k (next + 1) to end at ps fs (max far at) (omega (arith, e)) (λ row le lt. rows row (omega (arith, le)) lt) in
        let all_tried : tried at next to far ≡ max far at = ap (λ b. cond b (max far at) far) (lt-ltb next to (omega (arith, e))) in
        let still : tried at (next + 1) to (max far at) ≡ max far at = twice (nat_lt (next + 1) to) in
        let end_state : Failing (Choices to end at ps ∷ fs) (tried at (next + 1) to (max far at)) ≡ Failing (Choices to end at ps ∷ fs) (tried at next to far) =
        ap (λ f. Failing (Choices to end at ps ∷ fs) f) (still ∙ sym all_tried) in
        let there = subst (λ s. Comes tokens rules (Failing left (max far at)) s) end_state rest in (
          suc (suc fails.0 + there.0),
          (omega arith, (Calling next at left ps far, (calls, path_on tokens rules (suc fails.0) there.0 0 _ _ _ fails.1 there.1))),
        )
      where
        twice : (b : Bool) → cond b (max (max far at) at) (max far at) ≡ max far at
        twice true = omega arith
        twice false = refl

    same_frame : (cells : List Cell) (f : Frame) (far : ℕ) (new : Frame) (reached : ℕ) → (new ≡ f) × (reached ≡ far) → (fs : List Pending) → Comes tokens rules (Failing (frame_in cells f ∷ fs) far) (Failing (frame_in cells new ∷ fs) reached)
    same_frame cells f far new reached p fs = stays _ _ (ap (λ g. Failing (frame_in cells g ∷ fs) far) (sym p.0) ∙ ap (λ r. Failing (frame_in cells new ∷ fs) r) (sym p.1))

    -- the frame that is left fails as the frame does
    pub past_frame : (cells : List Cell) (f : Frame) (far : ℕ) (new : Frame) (reached : ℕ) → PassesOver tokens firsts f far new reached → (fs : List Pending)
        → Comes tokens rules (Failing (frame_in cells f ∷ fs) far) (Failing (frame_in cells new ∷ fs) reached)
    past_frame cells (frame.Choices rest mark) far new reached p fs =
        let to = p.0 in
        let passed = p.1 in
        let forward = passed.forward in
        let ps = parts_in cells mark.parts in
        let e : Failing (Choices to rest.end mark.at ps ∷ fs) (tried mark.at rest.next to far) ≡ Failing (frame_in cells new ∷ fs) reached =
        ap (λ f. Failing (Choices to rest.end mark.at ps ∷ fs) f) (sym p.3) ∙ ap (λ f. Failing (frame_in cells f ∷ fs) reached) (sym p.2) in
        subst (λ s. Comes tokens rules (Failing (Choices rest.next rest.end mark.at ps ∷ fs) far) s) e
        (past (to - rest.next) rest.next to rest.end mark.at ps fs far (omega (arith, forward)) passed.rows)
    past_frame cells (frame.Parts rest) far new reached p fs = same_frame cells (frame.Parts rest) far new reached p fs
    past_frame cells (frame.Naming row mark before) far new reached p fs = same_frame cells (frame.Naming row mark before) far new reached p fs
    past_frame cells (frame.Turns rest mark must) far new reached p fs = same_frame cells (frame.Turns rest mark must) far new reached p fs
    past_frame cells (frame.Optional mark) far new reached p fs = same_frame cells (frame.Optional mark) far new reached p fs
    past_frame cells (frame.Negated mark) far new reached p fs = same_frame cells (frame.Negated mark) far new reached p fs

    -- an optional row whose first part cannot begin takes nothing
    pub takes_nothing : (row at : ℕ) (rule : Rule) → slice_get rules row ≡ Some rule → IsOptional rule → CannotBegin tokens firsts rule.first at → Phr tokens rules row at (Gives none at at)
    takes_nothing row at rule is may cannot = record { enough = suc fails.enough; tells = tells }
      where
        fails : Phr tokens rules rule.first at (Fails at)
        fails = passed_over tokens rules firsts rule.first at no_recursion are cannot

        turn_fails : (row_at : Meaning) (count : ℕ) → 0 < count → row_at rule.first at ≡ Some (Fails at) → in_turn row_at rule.first count at ≡ Some (Fails at)
        turn_fails row_at zero lt e = absurd (omega arith)
        turn_fails row_at (suc count) lt e = ap (λ o. and_then o (in_turn row_at (rule.first + 1) count)) e

        by_form : (row_at : Meaning) (form : Form) → (form ≡ Star) ⊎ (form ≡ Opt) → in_turn row_at rule.first rule.count at ≡ Some (Fails at) → of_form tokens row_at row form rule.first rule.count at ≡ Some (Gives none at at)
        by_form row_at form q e = ⊎_elim
            (λ (star : form ≡ Star). subst (λ f. of_form tokens row_at row f rule.first rule.count at ≡ Some (Gives none at at)) (sym star) (ap (λ o. optional at (and_then o (again (row_at row) at))) e))
            (λ (opt : form ≡ Opt). subst (λ f. of_form tokens row_at row f rule.first rule.count at ≡ Some (Gives none at at)) (sym opt) (ap (λ o. optional at o) e)) q

        tells : (n : ℕ) → suc fails.enough ≤ n → phr tokens rules n row at ≡ Some (Gives none at at)
        tells zero le = absurd (omega arith)
        tells (suc n) le =
            ap (λ o. of_rule tokens (phr tokens rules n) row o at) is
            ∙ by_form (phr tokens rules n) rule.form may.0 (turn_fails (phr tokens rules n) rule.count may.1 (fails.tells n (omega arith)))
