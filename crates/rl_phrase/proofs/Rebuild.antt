-- Trees from their steps.
use Rattle.std.proofs.Common.{◌≡◌, ℕ, suc, ◌+◌, ◌-◌, ◌<◌, ◌≤◌, nat_lt, Bool, true, false, cond, List, [], ◌∷◌, ◌++◌, length, take, drop, Option, Some, None, refl, sym, ap, ◌∙◌, arith, append_assoc, append-nil, length-append, get_or, drop-cons}
use Rattle.std.proofs.lemmas.List.{take_at, drop_at, drop_all}
use Rattle.std.proofs.lemmas.Bool.{le-ltb, ltb-false}
use Rattle.rl_phrase.specs.declared.steps.Step.{Step}
use Rattle.rl_phrase.specs.declared.steps.Step.TheVariants as step
use Rattle.rl_phrase.specs.Tree.{Tree, Trees, Token, Node, none, more}
use Rattle.rl_phrase.specs.Steps.{size, tree_steps, steps_of}
use Rattle.rl_phrase.specs.View.{list_trees}
use Rattle.rl_phrase.specs.Build.{added, IsFit}

-- the trees on the stack after more steps, if these are steps of trees
abbrev pub rebuild : List Step → List Tree → Option (List Tree)
rebuild [] st = Some st
rebuild (step.Leaf t ∷ ss) st = rebuild ss (added (step.Leaf t) st)
rebuild (step.Node r f t n ∷ ss) st = cond (nat_lt (length st) n) None (rebuild ss (added (step.Node r f t n) st))

abbrev pub items : Trees → List Tree
items none = []
items (more t ts) = t ∷ items ts

pub list-items : (ts : Trees) → list_trees (items ts) ≡ ts
list-items none = refl
list-items (more t ts) = ap (λ x. more t x) (list-items ts)

pub length-items : (ts : Trees) → length (items ts) ≡ size ts
length-items none = refl
length-items (more t ts) = ap suc (length-items ts)

mutual
  pub rebuild_tree : (t : Tree) (ss : List Step) (st : List Tree) → rebuild (tree_steps t ++ ss) st ≡ rebuild ss (st ++ t ∷ [])
  rebuild_tree (Token t) ss st = refl
  rebuild_tree (Node r f t ps) ss st =
      let n = size ps in
      let all = st ++ items ps in
      let l : length all ≡ length st + n = omega (arith, length-append st (items ps), length-items ps) in
      let back : length all - n ≡ length st = omega arith in
      let enough : nat_lt (length all) n ≡ false = le-ltb (length all) n (omega arith) in
      ap (λ x. rebuild x st) (append_assoc (steps_of ps) (step.Node r f t n ∷ []) ss)
      ∙ rebuild_trees ps (step.Node r f t n ∷ ss) st
      ∙ ap (λ b. cond b None (rebuild ss (take (length all - n) all ++ Node r f t (list_trees (drop (length all - n) all)) ∷ []))) enough
      ∙ ap (λ k. rebuild ss (take k all ++ Node r f t (list_trees (drop k all)) ∷ [])) back
      ∙ ap (λ x. rebuild ss (x ++ Node r f t (list_trees (drop (length st) all)) ∷ [])) (take_at st (items ps) (length st) refl)
      ∙ ap (λ x. rebuild ss (st ++ Node r f t (list_trees x) ∷ [])) (drop_at st (items ps) (length st) refl)
      ∙ ap (λ x. rebuild ss (st ++ Node r f t x ∷ [])) (list-items ps)

  pub rebuild_trees : (ts : Trees) (ss : List Step) (st : List Tree) → rebuild (steps_of ts ++ ss) st ≡ rebuild ss (st ++ items ts)
  rebuild_trees none ss st = ap (λ x. rebuild ss x) (sym (append-nil st))
  rebuild_trees (more t ts) ss st =
      ap (λ x. rebuild x st) (append_assoc (tree_steps t) (steps_of ts) ss)
      ∙ rebuild_tree t (steps_of ts ++ ss) st
      ∙ rebuild_trees ts ss (st ++ t ∷ [])
      ∙ ap (λ x. rebuild ss x) (append_assoc st (t ∷ []) (items ts))

pub rebuild_one : (t : Tree) → rebuild (tree_steps t) [] ≡ Some (t ∷ [])
rebuild_one t = ap (λ x. rebuild x []) (sym (append-nil (tree_steps t))) ∙ rebuild_tree t [] []

pub step_fits : (s : Step) (ss : List Step) (st ts : List Tree) → rebuild (s ∷ ss) st ≡ Some ts → IsFit s (length st)
step_fits (step.Leaf t) ss st ts e = tt
step_fits (step.Node r f t n) ss st ts e = go (nat_lt (length st) n) refl e
  where
    go : (b : Bool) → nat_lt (length st) n ≡ b → cond b None (rebuild ss (added (step.Node r f t n) st)) ≡ Some ts → n ≤ length st
    go true q e = cc
    go false q e = ltb-false (length st) n q

pub step_adds : (s : Step) (ss : List Step) (st ts : List Tree) → rebuild (s ∷ ss) st ≡ Some ts → rebuild ss (added s st) ≡ Some ts
step_adds (step.Leaf t) ss st ts e = e
step_adds (step.Node r f t n) ss st ts e = go (nat_lt (length st) n) e
  where
    go : (b : Bool) → cond b None (rebuild ss (added (step.Node r f t n) st)) ≡ Some ts → rebuild ss (added (step.Node r f t n) st) ≡ Some ts
    go true e = cc
    go false e = e

pub drop_here : (ss : List Step) (i : ℕ) (d : Step) → i < length ss → drop i ss ≡ get_or ss i d ∷ drop (i + 1) ss
drop_here ss i d lt =
    let e : suc i ≡ i + 1 = omega arith in
    drop-cons ss i d lt ∙ ap (λ k. get_or ss i d ∷ drop k ss) e

-- one step of a loop
pub loop_fits : (ss : List Step) (i : ℕ) (d : Step) (st ts : List Tree) → i < length ss → rebuild (drop i ss) st ≡ Some ts → IsFit (get_or ss i d) (length st)
loop_fits ss i d st ts lt e = step_fits (get_or ss i d) (drop (i + 1) ss) st ts (sym (ap (λ x. rebuild x st) (drop_here ss i d lt)) ∙ e)

pub loop_adds : (ss : List Step) (i : ℕ) (d : Step) (st ts : List Tree) → i < length ss → rebuild (drop i ss) st ≡ Some ts → rebuild (drop (i + 1) ss) (added (get_or ss i d) st) ≡ Some ts
loop_adds ss i d st ts lt e = step_adds (get_or ss i d) (drop (i + 1) ss) st ts (sym (ap (λ x. rebuild x st) (drop_here ss i d lt)) ∙ e)

pub loop_ends : (ss : List Step) (i : ℕ) (st ts : List Tree) → length ss ≤ i → rebuild (drop i ss) st ≡ Some ts → st ≡ ts
loop_ends ss i st ts le e = let q : Some st ≡ Some ts = sym (ap (λ x. rebuild x st) (drop_all i ss le)) ∙ e in cc
