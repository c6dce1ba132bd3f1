-- A machine stays on the way to what its rows give.
use Rattle.std.proofs.Common.{◌≡◌, ℕ, zero, suc, ◌+◌, ◌<◌, max, nat_eq, nat_lt, Bool, true, false, cond, List, [], ◌∷◌, length, Option, Some, None, refl, sym, ap, ◌∙◌, subst, arith}
use Rattle.std.specs.Prelude.{slice_get}
use Rattle.std.proofs.lemmas.Option.{same_Some}
use Rattle.rl_tokens.specs.Token as lexed
use Rattle.rl_phrase.specs.Terminals.{Tokens, is_terminal}
use Rattle.rl_phrase.specs.declared.table.Rule.{Rule}
use Rattle.rl_phrase.specs.declared.table.Form.{Form}
use Rattle.rl_phrase.specs.declared.table.Form.TheVariants.{Term, Link, Named, Seq, Choice, Star, Plus, Opt, Not}
use Rattle.rl_phrase.specs.Tree.{Tree, Token, only}
use Rattle.rl_phrase.specs.Phr.{Outcome, Fails, Gives, Phr, phr, in_turn, named, node_of, of_rule, levels}
use Rattle.rl_phrase.specs.LeftRecursion.{HasNoLeftRecursion}
use Rattle.rl_phrase.specs.Machine.{onto, turned, Pending, Parts, Choices, Naming, Turns, Optional, Negated, State, Calling, Going, Failing, called, called_form, called_terminal, succeeded, failed, turn, depth, Path, done}
use Rattle.rl_phrase.specs.State.{Leads}
use Rattle.rl_phrase.specs.Awaits.{named_outcome, Awaited, Awaits, IsOnTheWay}
use Rattle.rl_phrase.proofs.Follows.{turned-onto, Does, Goes, cost, parts_cost, parts_do, follows, lower}
use Rattle.rl_phrase.proofs.Enough.{known_outcome, known_tells}

depth-done : (o : Outcome) (fs : List Pending) (ps : List Tree) (far : ℕ) → depth (done o fs ps far) ≡ length fs
depth-done (Fails f) fs ps far = refl
depth-done (Gives ts next f) fs ps far = refl

max_0 : (f : ℕ) → max 0 f ≡ f
max_0 f = omega arith

module _ (tokens : Tokens) (rules : List Rule) where
  awaited_turn : (row from : ℕ) (ps : List Tree) (far : ℕ) (fs : List Pending) (c d : State) → suc (length fs) < depth c → turn tokens rules c ≡ Some d → Awaited tokens rules c row from ps far fs → Awaited tokens rules d row from ps far fs
  awaited_turn row from ps far fs c d lt e a = go a.turns a.path
    where
      go : (n : ℕ) → Path tokens rules n (suc (length fs)) c (done a.parts_give (Naming row from ps far ∷ fs) [] 0) → Awaited tokens rules d row from ps far fs
      go zero p = let z = ap depth p ∙ depth-done a.parts_give (Naming row from ps far ∷ fs) [] 0 in absurd (omega arith)
      go (suc n) p =
          record {
            parts_give = a.parts_give;
            means = a.means;
            turns = n;
            path = subst (λ x. Path tokens rules n (suc (length fs)) x (done a.parts_give (Naming row from ps far ∷ fs) [] 0)) (same_Some _ _ (sym p.1.1.0 ∙ e)) p.1.1.1;
          }

  awaits_turn : (fs : List Pending) (c d : State) → length fs < depth c → turn tokens rules c ≡ Some d → Awaits tokens rules c fs → Awaits tokens rules d fs
  awaits_turn [] c d lt e a = tt
  awaits_turn (Naming row from ps far ∷ fs) c d lt e a = (awaited_turn row from ps far fs c d (omega arith) e a.0, awaits_turn fs c d (omega arith) e a.1)
  awaits_turn (Parts next end ∷ fs) c d lt e a = awaits_turn fs c d (omega arith) e a
  awaits_turn (Choices next end at ps ∷ fs) c d lt e a = awaits_turn fs c d (omega arith) e a
  awaits_turn (Turns first end at ps must ∷ fs) c d lt e a = awaits_turn fs c d (omega arith) e a
  awaits_turn (Optional at ps ∷ fs) c d lt e a = awaits_turn fs c d (omega arith) e a
  awaits_turn (Negated at ps ∷ fs) c d lt e a = awaits_turn fs c d (omega arith) e a

  -- what the parts of a named row give
  record PartsGive (row at : ℕ) (x : Option Outcome) (o : Outcome) : Type 0 where
    give : Outcome
    is : x ≡ Some give
    names : named_outcome row at give ≡ o

  parts_give : (row at : ℕ) (x : Option Outcome) (o : Outcome) → named row at x ≡ Some o → PartsGive row at x o
  parts_give row at None o e = cc
  parts_give row at (Some (Fails f)) o e = record { give = Fails f; is = refl; names = same_Some _ _ e }
  parts_give row at (Some (Gives ts next f)) o e = record { give = Gives ts next f; is = refl; names = same_Some _ _ e }

  -- a named row that has just begun
  begun : HasNoLeftRecursion rules → (row at first count : ℕ) (ps : List Tree) (far : ℕ) (fs : List Pending) → slice_get rules row ≡ Some (record { form = Named; first = first; count = count })
      → Awaited tokens rules (Going at (Parts first (first + count) ∷ Naming row at ps far ∷ fs) [] 0) row at ps far fs
  begun none row at first count ps far fs e =
      let n = levels (length rules) (length tokens) in
      let m = phr tokens rules n in
      let o = known_outcome tokens rules none row at in
      let tells : of_rule tokens m row (slice_get rules row) at ≡ Some o = known_tells tokens rules none row at (suc n) (omega arith) in
      let g = parts_give row at (in_turn m first count at) o (sym (ap (λ x. of_rule tokens m row x at) e) ∙ tells) in
      let p : Phr tokens rules row at o = record { enough = n; tells = known_tells tokens rules none row at } in
      let does = parts_do tokens rules m (cost tokens rules n) (follows tokens rules n) count first (first + count) refl at (Naming row at ps far ∷ fs) [] 0 in
      let goes : Goes tokens rules (parts_cost tokens rules (cost tokens rules n) first count) (suc (length fs)) (Going at (Parts first (first + count) ∷ Naming row at ps far ∷ fs) [] 0) (done g.give (Naming row at ps far ∷ fs) [] 0) =
      subst (λ x. Does tokens rules (suc (length fs)) (parts_cost tokens rules (cost tokens rules n) first count) (Going at (Parts first (first + count) ∷ Naming row at ps far ∷ fs) [] 0) (Naming row at ps far ∷ fs) [] 0 x) g.is does in
      record { parts_give = g.give; means = subst (λ x. Phr tokens rules row at x) (sym g.names) p; turns = goes.steps; path = goes.path }

  module _ (none : HasNoLeftRecursion rules) where
    way_terminal : (kind at : ℕ) (o : Option lexed.Token) (fs : List Pending) (ps : List Tree) (far : ℕ) → Awaits tokens rules (called_terminal kind at o fs ps far) fs → IsOnTheWay tokens rules (called_terminal kind at o fs ps far)
    way_terminal kind at None fs ps far a = a
    way_terminal kind at (Some k) fs ps far a = by_test (is_terminal k kind) a
      where
        by_test : (b : Bool) → Awaits tokens rules (cond b (Going (at + 1) fs (Token at ∷ ps) far) (Failing fs (max far at))) fs → IsOnTheWay tokens rules (cond b (Going (at + 1) fs (Token at ∷ ps) far) (Failing fs (max far at)))
        by_test true a = a
        by_test false a = a

    way_form : (row at first count : ℕ) (form : Form) (fs : List Pending) (ps : List Tree) (far : ℕ) → slice_get rules row ≡ Some (record { form = form; first = first; count = count })
        → Awaits tokens rules (called_form tokens row at form first count fs ps far) fs → IsOnTheWay tokens rules (called_form tokens row at form first count fs ps far)
    way_form row at first count (Term kind) fs ps far e a = way_terminal kind at (slice_get tokens at) fs ps far a
    way_form row at first count Link fs ps far e a = a
    way_form row at first count Named fs ps far e a = (begun none row at first count ps far fs e, a)
    way_form row at first count Seq fs ps far e a = a
    way_form row at first count Choice fs ps far e a = a
    way_form row at first count Star fs ps far e a = a
    way_form row at first count Plus fs ps far e a = a
    way_form row at first count Opt fs ps far e a = a
    way_form row at first count Not fs ps far e a = a

    way_called : (row at : ℕ) (o : Option Rule) (fs : List Pending) (ps : List Tree) (far : ℕ) → slice_get rules row ≡ o
        → Awaits tokens rules (called tokens row at o fs ps far) fs → IsOnTheWay tokens rules (called tokens row at o fs ps far)
    way_called row at None fs ps far e a = a
    way_called row at (Some rule) fs ps far e a = way_form row at rule.first rule.count rule.form fs ps far e a

    way_succeeded : (at : ℕ) (f : Pending) (fs : List Pending) (ps : List Tree) (far : ℕ) → Awaits tokens rules (succeeded at f fs ps far) fs → IsOnTheWay tokens rules (succeeded at f fs ps far)
    way_succeeded at (Parts next end) fs ps far a = by_test (nat_lt next end) a
      where
        by_test : (b : Bool) → Awaits tokens rules (cond b (Calling next at (Parts (next + 1) end ∷ fs) ps far) (Going at fs ps far)) fs → IsOnTheWay tokens rules (cond b (Calling next at (Parts (next + 1) end ∷ fs) ps far) (Going at fs ps far))
        by_test true a = a
        by_test false a = a
    way_succeeded at (Choices next end back before) fs ps far a = a
    way_succeeded at (Naming row from before m) fs ps far a = a
    way_succeeded at (Turns first end back before must) fs ps far a = by_test (nat_eq at back) a
      where
        by_test : (b : Bool) → Awaits tokens rules (cond b (Going at fs ps far) (Going at (Parts first end ∷ Turns first end at ps false ∷ fs) ps far)) fs → IsOnTheWay tokens rules (cond b (Going at fs ps far) (Going at (Parts first end ∷ Turns first end at ps false ∷ fs) ps far))
        by_test true a = a
        by_test false a = a
    way_succeeded at (Optional back before) fs ps far a = a
    way_succeeded at (Negated back before) fs ps far a = a

    way_failed : (f : Pending) (fs : List Pending) (far : ℕ) → Awaits tokens rules (failed f fs far) fs → IsOnTheWay tokens rules (failed f fs far)
    way_failed (Parts next end) fs far a = a
    way_failed (Choices next end at before) fs far a = by_test (nat_lt next end) a
      where
        by_test : (b : Bool) → Awaits tokens rules (cond b (Calling next at (Choices (next + 1) end at before ∷ fs) before far) (Failing fs far)) fs → IsOnTheWay tokens rules (cond b (Calling next at (Choices (next + 1) end at before ∷ fs) before far) (Failing fs far))
        by_test true a = a
        by_test false a = a
    way_failed (Naming row from before m) fs far a = a
    way_failed (Turns first end at before true) fs far a = a
    way_failed (Turns first end at before false) fs far a = a
    way_failed (Optional at before) fs far a = a
    way_failed (Negated at before) fs far a = a

    -- what a row below the top frame awaits
    below : (f : Pending) (fs : List Pending) (c : State) → Awaits tokens rules c (f ∷ fs) → Awaits tokens rules c fs
    below (Naming row from before m) fs c a = a.1
    below (Parts next end) fs c a = a
    below (Choices next end at before) fs c a = a
    below (Turns first end at before must) fs c a = a
    below (Optional at before) fs c a = a
    below (Negated at before) fs c a = a

    way_turn : (c d : State) → turn tokens rules c ≡ Some d → IsOnTheWay tokens rules c → IsOnTheWay tokens rules d
    way_turn (Calling row at fs ps far) d e a =
        subst (λ x. IsOnTheWay tokens rules x) (same_Some _ _ e)
        (way_called row at (slice_get rules row) fs ps far refl (awaits_turn fs (Calling row at fs ps far) _ (omega arith) refl a))
    way_turn (Going at [] ps far) d e a = cc
    way_turn (Going at (f ∷ fs) ps far) d e a =
        subst (λ x. IsOnTheWay tokens rules x) (same_Some _ _ e)
        (way_succeeded at f fs ps far (awaits_turn fs (Going at (f ∷ fs) ps far) _ (omega arith) refl (below f fs (Going at (f ∷ fs) ps far) a)))
    way_turn (Failing [] far) d e a = cc
    way_turn (Failing (f ∷ fs) far) d e a =
        subst (λ x. IsOnTheWay tokens rules x) (same_Some _ _ e)
        (way_failed f fs far (awaits_turn fs (Failing (f ∷ fs) far) _ (omega arith) refl (below f fs (Failing (f ∷ fs) far) a)))

    pub way_path : (n floor : ℕ) (c d : State) → Path tokens rules n floor c d → IsOnTheWay tokens rules c → IsOnTheWay tokens rules d
    way_path zero floor c d p a = subst (λ x. IsOnTheWay tokens rules x) p a
    way_path (suc n) floor c d p a = way_path n floor p.1.0 d p.1.1.1 (way_turn c p.1.0 p.1.1.0 a)

  -- a named row that is done gives what the machine has come to
  pub right_success : (row from at : ℕ) (before ps : List Tree) (m far : ℕ) (fs : List Pending) → IsOnTheWay tokens rules (Going at (Naming row from before m ∷ fs) ps far)
      → Phr tokens rules row from (Gives (only (node_of row from at (turned ps))) at far)
  right_success row from at before ps m far fs a = go a.0.parts_give a.0.turns a.0.means a.0.path
    where
      go : (o : Outcome) (n : ℕ) → Phr tokens rules row from (named_outcome row from o) → Path tokens rules n (suc (length fs)) (Going at (Naming row from before m ∷ fs) ps far) (done o (Naming row from before m ∷ fs) [] 0)
          → Phr tokens rules row from (Gives (only (node_of row from at (turned ps))) at far)
      go o (suc n) q p = let lt = p.0 in absurd (omega arith)
      go (Fails f) zero q p = cc
      go (Gives ts next f) zero q p =
          let en : at ≡ next = cc in
          let ep : ps ≡ onto ts [] = cc in
          let ef : far ≡ max 0 f = cc in
          let et : turned ps ≡ ts = ap turned ep ∙ turned-onto ts in
          let e : Gives (only (node_of row from next ts)) next f ≡ Gives (only (node_of row from at (turned ps))) at far =
          ap (λ x. Gives (only (node_of row from next x)) next f) (sym et)
          ∙ ap (λ x. Gives (only (node_of row from x (turned ps))) x f) (sym en)
          ∙ ap (λ x. Gives (only (node_of row from at (turned ps))) at x) (sym (max_0 f) ∙ sym ef) in
          subst (λ x. Phr tokens rules row from x) e q

  pub right_failure : (row from : ℕ) (before : List Tree) (m far : ℕ) (fs : List Pending) → IsOnTheWay tokens rules (Failing (Naming row from before m ∷ fs) far) → Phr tokens rules row from (Fails far)
  right_failure row from before m far fs a = go a.0.parts_give a.0.turns a.0.means a.0.path
    where
      go : (o : Outcome) (n : ℕ) → Phr tokens rules row from (named_outcome row from o) → Path tokens rules n (suc (length fs)) (Failing (Naming row from before m ∷ fs) far) (done o (Naming row from before m ∷ fs) [] 0)
          → Phr tokens rules row from (Fails far)
      go o (suc n) q p = let lt = p.0 in absurd (omega arith)
      go (Gives ts next f) zero q p = cc
      go (Fails f) zero q p =
          let ef : far ≡ max 0 f = cc in
          subst (λ x. Phr tokens rules row from (Fails x)) (sym (max_0 f) ∙ sym ef) q

  -- a call of a row leads to what the row gives
  pub jumps : (row at : ℕ) (o : Outcome) → Phr tokens rules row at o → (fs : List Pending) (ps : List Tree) (far : ℕ) → Leads tokens rules (Calling row at fs ps far) (done o fs ps far)
  jumps row at o p fs ps far =
      let g : Goes tokens rules (cost tokens rules p.enough row) (length fs) (Calling row at fs ps far) (done o fs ps far) =
      subst (λ x. Does tokens rules (length fs) (cost tokens rules p.enough row) (Calling row at fs ps far) fs ps far x) (p.tells p.enough (omega arith)) (follows tokens rules p.enough row at fs ps far) in
      go o g.steps g.path
    where
      go : (o : Outcome) (n : ℕ) → Path tokens rules n (length fs) (Calling row at fs ps far) (done o fs ps far) → Leads tokens rules (Calling row at fs ps far) (done o fs ps far)
      go (Fails f) zero p = cc
      go (Gives ts next f) zero p = cc
      go o (suc n) p = (n, lower tokens rules (suc n) (length fs) 0 (Calling row at fs ps far) (done o fs ps far) (omega arith) p)
