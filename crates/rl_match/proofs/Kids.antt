-- What is below a value is by its kids.
use Rattle.std.proofs.Common.{◌≡◌, List, [], ◌∷◌, ◌++◌, flat_map, true, false, refl, sym, ap, ◌∙◌, append-nil, append_assoc}
use Rattle.std.proofs.lemmas.Grind.{flat_map-append}
use Rattle.rl_value.specs.Kids.{kids, part_kids, parts_kids, pairs_kids, by_role}
use Rattle.rl_value.specs.declared.shape.Role.{Role}
use Rattle.rl_value.specs.declared.shape.Role.TheVariants.{Layout, Rep, Opt}
use Rattle.rl_value.specs.Plain.{Plain, tuple, list, set, mapping, node, tree, leaf, Plains, nil, cons, Pairs, no_pairs, pair, items_of}
use Rattle.rl_match.specs.Below.{below, below_as, below_each, below_pairs}

each_item : (ts : Plains) → below_each false ts ≡ flat_map below (items_of ts)
unfolding below_each
each_item nil = refl
each_item (cons t ts) = ap (λ xs. below t ++ xs) (each_item ts)

each_pair : (ps : Pairs) → below_pairs ps ≡ flat_map below (pairs_kids ps)
unfolding below_pairs
each_pair no_pairs = refl
each_pair (pair k v ps) = append_assoc (below k) (below v) (below_pairs ps) ∙ ap (λ xs. below k ++ (below v ++ xs)) (each_pair ps)

-- a part that is itself a kid
itself : (t : Plain) → below t ≡ flat_map below (t ∷ [])
itself t = sym (append-nil (below t))

as_part : (role : Role) (inside : List Plain) (t : Plain) (below_inside : List Plain) → below_inside ≡ flat_map below inside → below t ≡ t ∷ below_inside
    → by_role role [] below_inside (t ∷ below_inside) ≡ flat_map below (by_role role [] inside (t ∷ []))
as_part Layout inside t below_inside e f = refl
as_part Rep inside t below_inside e f = e
as_part Opt inside t below_inside e f = e
as_part _ inside t below_inside e f = sym f ∙ itself t

mutual
  unfolding below_as below_each

  part_below : (t : Plain) → below_as true t ≡ flat_map below (part_kids t)
  part_below (tree shape ts) = as_part shape.role (parts_kids ts) (tree shape ts) (below_each true ts) (parts_below ts) refl
  part_below (leaf bytes) = refl
  part_below (tuple ts) = itself (tuple ts)
  part_below (list ts) = itself (list ts)
  part_below (set ts) = itself (set ts)
  part_below (mapping ps) = itself (mapping ps)
  part_below (node name ts) = itself (node name ts)
  part_below t = refl

  parts_below : (ts : Plains) → below_each true ts ≡ flat_map below (parts_kids ts)
  parts_below nil = refl
  parts_below (cons t ts) =
      ap (λ xs. xs ++ below_each true ts) (part_below t)
      ∙ (ap (λ ys. flat_map below (part_kids t) ++ ys) (parts_below ts) ∙ sym (flat_map-append below (part_kids t) (parts_kids ts)))

pub by_kids : (v : Plain) → below v ≡ v ∷ flat_map below (kids v)
unfolding below_as
by_kids (tuple ts) = ap (λ xs. tuple ts ∷ xs) (each_item ts)
by_kids (list ts) = ap (λ xs. list ts ∷ xs) (each_item ts)
by_kids (set ts) = ap (λ xs. set ts ∷ xs) (each_item ts)
by_kids (mapping ps) = ap (λ xs. mapping ps ∷ xs) (each_pair ps)
by_kids (node name ts) = ap (λ xs. node name ts ∷ xs) (each_item ts)
by_kids (tree shape ts) = ap (λ xs. tree shape ts ∷ xs) (parts_below ts)
by_kids t = refl
