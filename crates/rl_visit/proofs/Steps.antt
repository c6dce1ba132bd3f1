-- Steps of walks: what follows after the children, and renewal.
use Rattle.std.proofs.Common.{Bool, true, false, ◌||◌, if◌then◌else◌, List}
use Rattle.rl_types.specs.Declarations.{Declarations}
use Rattle.rl_value.specs.Kids.{renew}
use Rattle.rl_value.specs.Plain.{Plain}
use Rattle.rl_visit.specs.Walk.{Children, Answer, Walked, end, visit_type, too_large, Going, at_node, came_of, is_unchanged, may_have, fits, renewed}

-- what follows after all children
abbrev pub Finish : Type 0
Finish = Children → Bool → List Answer → Walked

-- what follows after the children in a walk from above
abbrev pub after_kids : Declarations → Plain → Finish
after_kids d v ks s left = renewed d v ks s left end

-- the node after its children, in a walk from below
abbrev pub node_after_all : Going
node_after_all u s more = at_node u more (λ w here rest. end w (s || here) rest)

-- and where none of them was served
abbrev pub node_after : Going
node_after u s more = if s then end u true more else at_node u more end

abbrev pub node_after_kids : Declarations → Plain → Finish
node_after_kids d v ks s left = renewed d v ks s left node_after

-- a relation of walks that holds of both branches
choose : (R : Walked → Walked → Type 0) (b : Bool) (x y x' y' : Walked) → R x x' → R y y' → R (if b then x else y) (if b then x' else y')
choose R true x y x' y' h k = h
choose R false x y x' y' h k = k

pub renewed-both : (R : Walked → Walked → Type 0) → R visit_type visit_type → R too_large too_large → (d : Declarations) (v : Plain) (ks : Children) (s : Bool) (given given' : List Answer) (go : Going)
    → ((u : Plain) → R (go u s given) (go u s given')) → R (renewed d v ks s given go) (renewed d v ks s given' go)
renewed-both R hv ht d v ks s given given' go h =
    choose R (is_unchanged ks) (go v s given) (if may_have d v ks then (if fits (renew v (came_of ks)) then go (renew v (came_of ks)) s given else too_large) else visit_type)
    (go v s given') (if may_have d v ks then (if fits (renew v (came_of ks)) then go (renew v (came_of ks)) s given' else too_large) else visit_type) (h v)
    (choose R (may_have d v ks) (if fits (renew v (came_of ks)) then go (renew v (came_of ks)) s given else too_large) visit_type (if fits (renew v (came_of ks)) then go (renew v (came_of ks)) s given' else too_large) visit_type
    (choose R (fits (renew v (came_of ks))) (go (renew v (came_of ks)) s given) too_large (go (renew v (came_of ks)) s given') too_large (h (renew v (came_of ks))) ht) hv)
