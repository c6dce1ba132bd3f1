-- The machine comes to an end.
use Rattle.std.proofs.Common.{◌≡◌, ℕ, zero, suc, ◌<◌, ◌≤◌, max, List, [], Option, Some, None, length, refl, sym, ap, ◌∙◌, subst, arith}
use Rattle.std.proofs.lemmas.Option.{same_Some}
use Rattle.rl_phrase.specs.Terminals.{Tokens}
use Rattle.rl_phrase.specs.declared.table.Rule.{Rule}
use Rattle.rl_phrase.specs.Tree.{Tree, Trees}
use Rattle.rl_phrase.specs.Phr.{Outcome, Fails, Gives, Phr, levels}
use Rattle.rl_phrase.specs.LeftRecursion.{HasNoLeftRecursion}
use Rattle.rl_phrase.specs.Machine.{onto, Pending, State, Calling, Going, turn, Path, done}
use Rattle.rl_phrase.specs.State.{Leads}
use Rattle.rl_phrase.proofs.Follows.{Does, Goes, cost, follows}
use Rattle.rl_phrase.proofs.Enough.{known_outcome, known_tells}

abbrev pub end_or : Option State → State → (State → Option State) → Option State
end_or None state go = Some state
end_or (Some next) state go = go next

max_0 : (f : ℕ) → max 0 f ≡ f
max_0 f = omega arith

module _ (tokens : Tokens) (rules : List Rule) where
  -- the state at the end, if fewer than n turns lead there
  abbrev pub run : ℕ → State → Option State
  run zero state = None
  run (suc n) state = end_or (turn tokens rules state) state (run n)

  abbrev turns_after : Option State → (State → ℕ) → ℕ
  turns_after None go = 0
  turns_after (Some next) go = suc (go next)

  -- how many turns are left, up to n
  pub turns_left : ℕ → State → ℕ
  turns_left zero s = 0
  turns_left (suc n) s = turns_after (turn tokens rules s) (turns_left n)

  run_more : (j n : ℕ) (s d : State) → j ≤ n → run j s ≡ Some d → run n s ≡ Some d
  run_more zero n s d le e = cc
  run_more (suc j) zero s d le e = absurd (omega arith)
  run_more (suc j) (suc n) s d le e =
      (elim (turn tokens rules s) as (λ o. end_or o s (run j) ≡ Some d → end_or o s (run n) ≡ Some d)
      [ None ↦ λ e. e | Some next ↦ λ e. run_more j n next d (omega arith) e ]) e

  run_turn : (n : ℕ) (s next d : State) → turn tokens rules s ≡ Some next → run n s ≡ Some d → run n next ≡ Some d
  run_turn zero s next d t e = cc
  run_turn (suc n) s next d t e = run_more n (suc n) next d (omega arith) (sym (ap (λ o. end_or o s (run n)) t) ∙ e)

  run_end : (n : ℕ) (s d : State) → turn tokens rules s ≡ None → run n s ≡ Some d → s ≡ d
  run_end zero s d t e = cc
  run_end (suc n) s d t e = let x : Some s ≡ Some d = sym (ap (λ o. end_or o s (run n)) t) ∙ e in same_Some _ _ x

  run_path : (n floor : ℕ) (s d : State) → Path tokens rules n floor s d → turn tokens rules d ≡ None → run (suc n) s ≡ Some d
  run_path zero floor s d p e = ap (λ o. end_or o s (run zero)) (ap (turn tokens rules) p ∙ e) ∙ ap Some p
  run_path (suc n) floor s d p e = ap (λ o. end_or o s (run (suc n))) p.1.1.0 ∙ run_path n floor p.1.0 d p.1.1.1 e

  left_same : (n : ℕ) (s d : State) → run n s ≡ Some d → turns_left (suc n) s ≡ turns_left n s
  unfolding turns_left
  left_same zero s d e = cc
  left_same (suc n) s d e =
      (elim (turn tokens rules s) as (λ o. end_or o s (run n) ≡ Some d → turns_after o (turns_left (suc n)) ≡ turns_after o (turns_left n))
      [ None ↦ λ e. refl | Some next ↦ λ e. ap suc (left_same n next d e) ]) e

  left_less : (n : ℕ) (s next d : State) → turn tokens rules s ≡ Some next → run n s ≡ Some d → turns_left n next < turns_left n s
  unfolding turns_left
  left_less zero s next d t e = cc
  left_less (suc n) s next d t e =
      let r : run n next ≡ Some d = sym (ap (λ o. end_or o s (run n)) t) ∙ e in
      let a = left_same n next d r in
      let b : turns_left (suc n) s ≡ suc (turns_left n next) = ap (λ o. turns_after o (turns_left n)) t in
      omega arith

  -- a number of turns that is enough, from a row at the first token
  abbrev pub most_turns : ℕ → ℕ
  most_turns row = suc (cost tokens rules (levels (length rules) (length tokens)) row)

  abbrev pub start_at : ℕ → State
  start_at row = Calling row 0 [] [] 0

  -- the machine comes to what the row gives
  pub record Ends (row : ℕ) (state : State) : Type 0 where
    pub outcome : Outcome
    pub means : Phr tokens rules row 0 outcome
    pub leads : run (most_turns row) state ≡ Some (done outcome [] [] 0)

  at_done : (o : Outcome) → turn tokens rules (done o [] [] 0) ≡ None
  at_done (Fails f) = refl
  at_done (Gives ts next f) = refl

  pub start_ends : HasNoLeftRecursion rules → (row : ℕ) → Ends row (start_at row)
  start_ends none row =
      let n = levels (length rules) (length tokens) in
      let o = known_outcome tokens rules none row 0 in
      let tells = known_tells tokens rules none row 0 in
      let g : Goes tokens rules (cost tokens rules n row) 0 (start_at row) (done o [] [] 0) =
      subst (λ x. Does tokens rules 0 (cost tokens rules n row) (start_at row) [] [] 0 x) (tells n (omega arith)) (follows tokens rules n row 0 [] [] 0) in
      let le = g.within in
      record {
        outcome = o;
        means = record { enough = n; tells = tells };
        leads = run_more (suc g.steps) (most_turns row) (start_at row) (done o [] [] 0) (omega arith) (run_path g.steps 0 (start_at row) (done o [] [] 0) g.path (at_done o));
      }

  ends_on : (row : ℕ) (s next : State) → turn tokens rules s ≡ Some next → Ends row s → Ends row next
  ends_on row s next t e = record { outcome = e.outcome; means = e.means; leads = run_turn (most_turns row) s next (done e.outcome [] [] 0) t e.leads }

  less_left : (row : ℕ) (s next : State) → turn tokens rules s ≡ Some next → Ends row s → turns_left (most_turns row) next < turns_left (most_turns row) s
  less_left row s next t e = left_less (most_turns row) s next (done e.outcome [] [] 0) t e.leads

  -- along some turns
  ends_path : (row n floor : ℕ) (s d : State) → Path tokens rules n floor s d → Ends row s → Ends row d
  ends_path row zero floor s d p e = subst (λ x. Ends row x) p e
  ends_path row (suc n) floor s d p e = ends_path row n floor p.1.0 d p.1.1.1 (ends_on row s p.1.0 p.1.1.0 e)

  less_path : (row n floor : ℕ) (s d : State) → Path tokens rules n floor s d → Ends row s → turns_left (most_turns row) d ≤ turns_left (most_turns row) s
  less_path row zero floor s d p e = subst (λ x. turns_left (most_turns row) x ≤ turns_left (most_turns row) s) p (omega arith)
  less_path row (suc n) floor s d p e =
      let a = less_left row s p.1.0 p.1.1.0 e in
      let b = less_path row n floor p.1.0 d p.1.1.1 (ends_on row s p.1.0 p.1.1.0 e) in
      omega arith

  pub ends_leads : (row : ℕ) (s d : State) → Leads tokens rules s d → Ends row s → Ends row d
  ends_leads row s d l e = ends_path row (suc l.0) 0 s d l.1 e

  pub less_leads : (row : ℕ) (s d : State) → Leads tokens rules s d → Ends row s → turns_left (most_turns row) d < turns_left (most_turns row) s
  less_leads row s d l e =
      let p = l.1 in
      let a = less_left row s p.1.0 p.1.1.0 e in
      let b = less_path row l.0 0 p.1.0 d p.1.1.1 (ends_on row s p.1.0 p.1.1.0 e) in
      omega arith

  pub at_end : (row : ℕ) (s : State) → turn tokens rules s ≡ None → (e : Ends row s) → s ≡ done e.outcome [] [] 0
  at_end row s t e = run_end (most_turns row) s (done e.outcome [] [] 0) t e.leads

  -- what the end shows of a row
  pub record Finds (row next : ℕ) (parts : List Tree) : Type 0 where
    pub trees : Trees
    pub far : ℕ
    pub means : Phr tokens rules row 0 (Gives trees next far)
    pub are : parts ≡ onto trees []

  pub found : (row next far : ℕ) (frames : List Pending) (parts : List Tree) → turn tokens rules (Going next frames parts far) ≡ None → Ends row (Going next frames parts far) → Finds row next parts
  found row next far frames parts t e = by_outcome e.outcome e.means (at_end row (Going next frames parts far) t e)
    where
      by_outcome : (o : Outcome) → Phr tokens rules row 0 o → Going next frames parts far ≡ done o [] [] 0 → Finds row next parts
      by_outcome (Fails f) p q = cc
      by_outcome (Gives ts to f) p q =
          let en : to ≡ next = cc in
          record { trees = ts; far = f; means = subst (λ n. Phr tokens rules row 0 (Gives ts n f)) en p; are = cc }
