-- The steps of a list from the last to the first.
use Rattle.std.proofs.Common.{◌≡◌, ℕ, suc, ◌+◌, ◌*◌, ◌<◌, ◌≤◌, List, [], ◌∷◌, ◌++◌, length, Option, Some, None, reverse, refl, sym, ap, ◌∙◌, subst, arith, append_assoc, append-nil, length-append}
use Rattle.std.proofs.lemmas.List.{reverse-append}
use Rattle.rl_phrase.specs.declared.steps.Step.{Step}
use Rattle.rl_phrase.specs.declared.steps.Step.TheVariants as step
use Rattle.rl_phrase.specs.declared.arena.Item.{Item}
use Rattle.rl_phrase.specs.declared.arena.Item.TheVariants as item
use Rattle.rl_phrase.specs.declared.arena.Cell.{Cell}
use Rattle.rl_phrase.specs.Tree.{Tree, Trees, Token, Node, none, more, ◌then◌, only}
use Rattle.rl_phrase.specs.Steps.{size, tree_steps, steps_of}
use Rattle.rl_phrase.specs.Machine.{turned, turned_on}
use Rattle.rl_phrase.specs.Arena.{parts_in, tree_in, IsWithin, Reads}
use Rattle.rl_phrase.specs.Unfold.{step_in, lists_before, IsUnfoldedTo, IsUnfolded}
use Rattle.rl_phrase.proofs.Cells.{no_list}

steps-then : (ts us : Trees) → steps_of (ts then us) ≡ steps_of ts ++ steps_of us
steps-then none us = refl
steps-then (more t ts) us = ap (λ s. tree_steps t ++ s) (steps-then ts us) ∙ sym (append_assoc (tree_steps t) (steps_of ts) (steps_of us))

then_assoc : (ts us vs : Trees) → ((ts then us) then vs) ≡ (ts then (us then vs))
then_assoc none us vs = refl
then_assoc (more t ts) us vs = ap (λ x. more t x) (then_assoc ts us vs)

turned_more : (ps : List Tree) (us : Trees) → turned_on ps us ≡ (turned ps then us)
turned_more [] us = refl
turned_more (p ∷ ps) us = turned_more ps (more p us) ∙ sym (ap (λ x. x then us) (turned_more ps (only p)) ∙ then_assoc (turned ps) (only p) us)

size_on : (ps : List Tree) (us : Trees) → size (turned_on ps us) ≡ length ps + size us
size_on [] us = omega arith
size_on (p ∷ ps) us = let e = size_on ps (more p us) in omega arith

size-turned : (ps : List Tree) → length ps ≡ size (turned ps)
size-turned ps = let e = size_on ps none in omega arith

abbrev pub back_steps : List Tree → List Step
back_steps ps = reverse (steps_of (turned ps))

back_more : (t : Tree) (ps : List Tree) → back_steps (t ∷ ps) ≡ reverse (tree_steps t) ++ back_steps ps
back_more t ps =
    ap (λ x. reverse (steps_of x)) (turned_more ps (only t))
    ∙ ap reverse (steps-then (turned ps) (only t))
    ∙ reverse-append (steps_of (turned ps)) (tree_steps t ++ [])
    ∙ ap (λ x. reverse x ++ back_steps ps) (append-nil (tree_steps t))

module _ (cells : List Cell) where
  abbrev pub steps_in : ℕ → List Step
  steps_in list = back_steps (parts_in cells list)

  -- the steps of these lists
  abbrev pub pending : List ℕ → List Step
  pending [] = []
  pending (list ∷ lists) = steps_in list ++ pending lists

  -- how much there is to do
  abbrev pub work : List ℕ → ℕ
  work [] = 0
  work (list ∷ lists) = 1 + 2 * length (steps_in list) + work lists

  abbrev pub AreWithin : List ℕ → Type 0
  AreWithin [] = Unit {0}
  AreWithin (list ∷ lists) = (list ≤ length cells) × AreWithin lists

  a_token : (t : ℕ) (ps : List Tree) → back_steps (Token t ∷ ps) ≡ step.Leaf t ∷ back_steps ps
  a_token t ps = back_more (Token t) ps

  a_node : (r f t parts : ℕ) (ps : List Tree) → back_steps (Node r f t (turned (parts_in cells parts)) ∷ ps) ≡ step.Node r f t (length (parts_in cells parts)) ∷ (steps_in parts ++ back_steps ps)
  a_node r f t parts ps =
      let us = turned (parts_in cells parts) in
      back_more (Node r f t us) ps
      ∙ ap (λ x. x ++ back_steps ps) (reverse-append (steps_of us) (step.Node r f t (size us) ∷ []))
      ∙ ap (λ n. step.Node r f t n ∷ (steps_in parts ++ back_steps ps)) (sym (size-turned (parts_in cells parts)))

  -- the steps of a cell and of what is before it
  one_cell : (before : ℕ) (i : Item) (lists : List ℕ) → back_steps (tree_in cells i ∷ parts_in cells before) ++ pending lists ≡ step_in cells i ∷ pending (lists_before before i lists)
  one_cell before (item.Token t) lists = ap (λ x. x ++ pending lists) (a_token t (parts_in cells before))
  one_cell before (item.Node r f t parts) lists =
      ap (λ x. x ++ pending lists) (a_node r f t parts (parts_in cells before))
      ∙ ap (λ x. step.Node r f t (length (parts_in cells parts)) ∷ x) (append_assoc (steps_in parts) (steps_in before) (pending lists))

  pending_cell : (list : ℕ) (lists : List ℕ) (steps : List Step) (cell : Cell) → Reads cells list (Some cell)
      → (steps ++ step_in cells cell.item ∷ []) ++ pending (lists_before cell.before cell.item lists) ≡ steps ++ pending (list ∷ lists)
  pending_cell list lists steps cell r =
      append_assoc steps (step_in cells cell.item ∷ []) (pending (lists_before cell.before cell.item lists))
      ∙ ap (λ x. steps ++ x) (sym (one_cell cell.before cell.item lists))
      ∙ ap (λ ps. steps ++ (back_steps ps ++ pending lists)) (sym r.3)

  pending_nothing : (list : ℕ) (lists : List ℕ) → list ≡ 0 → pending (list ∷ lists) ≡ pending lists
  pending_nothing list lists e = ap (λ k. steps_in k ++ pending lists) e ∙ ap (λ ps. back_steps ps ++ pending lists) (no_list cells)

  work_by : (before : ℕ) (i : Item) (lists : List ℕ) → work (lists_before before i lists) < 1 + 2 * length (back_steps (tree_in cells i ∷ parts_in cells before)) + work lists
  work_by before (item.Token t) lists = let l = ap length (a_token t (parts_in cells before)) in omega (arith, l)
  work_by before (item.Node r f t parts) lists =
      let l : length (back_steps (Node r f t (turned (parts_in cells parts)) ∷ parts_in cells before)) ≡ suc (length (steps_in parts ++ steps_in before)) = ap length (a_node r f t parts (parts_in cells before)) in
      omega (arith, l, length-append (steps_in parts) (steps_in before))

  work_cell : (list : ℕ) (lists : List ℕ) (cell : Cell) → Reads cells list (Some cell) → work (lists_before cell.before cell.item lists) < work (list ∷ lists)
  work_cell list lists cell r = subst (λ ps. work (lists_before cell.before cell.item lists) < 1 + 2 * length (back_steps ps) + work lists) (sym r.3) (work_by cell.before cell.item lists)

  within_by : (n before : ℕ) (i : Item) (lists : List ℕ) → n ≤ length cells → before ≤ n → IsWithin n i → AreWithin lists → AreWithin (lists_before before i lists)
  within_by n before (item.Token t) lists le b w a = (omega arith, a)
  within_by n before (item.Node r f t parts) lists le b w a = (omega arith, (omega arith, a))

  within_cell : (list : ℕ) (lists : List ℕ) (cell : Cell) → Reads cells list (Some cell) → AreWithin (list ∷ lists) → AreWithin (lists_before cell.before cell.item lists)
  within_cell list lists cell r a =
      let e = r.1 in
      let le = a.0 in
      within_by r.0 cell.before cell.item lists (omega arith) r.2.0 r.2.1 a.1

  -- the loop goes on
  pub unfolds : (list : ℕ) (lists : List ℕ) (steps all : List Step) (new_steps : List Step) (new_lists : List ℕ) → AreWithin (list ∷ lists) → steps ++ pending (list ∷ lists) ≡ all
      → IsUnfolded cells list steps lists new_steps new_lists → AreWithin new_lists × (new_steps ++ pending new_lists ≡ all)
  unfolds list lists steps all new_steps new_lists w e u = by_cell u.0 u.1 u.2
    where
      by_cell : (o : Option Cell) → Reads cells list o → IsUnfoldedTo cells o steps lists new_steps new_lists → AreWithin new_lists × (new_steps ++ pending new_lists ≡ all)
      by_cell None r u =
          (subst (λ x. AreWithin x) (sym u.1) w.1, ap (λ x. x ++ pending new_lists) u.0 ∙ ap (λ x. steps ++ pending x) u.1 ∙ ap (λ x. steps ++ x) (sym (pending_nothing list lists r)) ∙ e)
      by_cell (Some cell) r u = (
        subst (λ x. AreWithin x) (sym u.1) (within_cell list lists cell r w),
        ap (λ x. x ++ pending new_lists) u.0 ∙ ap (λ x. (steps ++ step_in cells cell.item ∷ []) ++ pending x) u.1 ∙ pending_cell list lists steps cell r ∙ e,
      )

  pub less_work : (list : ℕ) (lists : List ℕ) (steps new_steps : List Step) (new_lists : List ℕ) → IsUnfolded cells list steps lists new_steps new_lists → work new_lists < work (list ∷ lists)
  less_work list lists steps new_steps new_lists u = by_cell u.0 u.1 u.2
    where
      by_cell : (o : Option Cell) → Reads cells list o → IsUnfoldedTo cells o steps lists new_steps new_lists → work new_lists < work (list ∷ lists)
      by_cell None r u = subst (λ x. work x < work (list ∷ lists)) (sym u.1) (omega arith)
      by_cell (Some cell) r u = subst (λ x. work x < work (list ∷ lists)) (sym u.1) (work_cell list lists cell r)
