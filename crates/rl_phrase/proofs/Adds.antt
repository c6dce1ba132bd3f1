-- A node takes its parts from the stack.
use Rattle.std.proofs.Common.{◌≡◌, ℕ, ◌-◌, List, [], ◌∷◌, ◌++◌, length, take, drop, map, sym, ap, ◌∙◌}
use Rattle.std.proofs.lemmas.List.{map-append, take-map, drop-map, length-map}
use Rattle.rl_phrase.specs.declared.tree.Part.{Part}
use Rattle.rl_phrase.specs.declared.steps.Step.TheVariants as step
use Rattle.rl_phrase.specs.Tree.{Tree, Node}
use Rattle.rl_phrase.specs.View.{tree_of, list_trees}
use Rattle.rl_phrase.specs.Build.{added}

-- of any function in the place of tree_of
adds_under : (view : Part → Tree) (old new kept own : List Part) (x : Part) (r f t n k : ℕ) → k ≡ length old - n → new ≡ kept ++ x ∷ [] → kept ≡ take k old → own ≡ drop k old
    → view x ≡ Node r f t (list_trees (map view own)) → map view new ≡ added (step.Node r f t n) (map view old)
adds_under view old new kept own x r f t n k ek en et eo ex =
    let len : length (map view old) - n ≡ k = ap (λ l. l - n) (length-map old view) ∙ sym ek in
    ap (map view) en
    ∙ map-append view kept (x ∷ [])
    ∙ ap (λ y. map view kept ++ y ∷ []) ex
    ∙ ap (λ y. map view y ++ Node r f t (list_trees (map view own)) ∷ []) et
    ∙ ap (λ y. map view (take k old) ++ Node r f t (list_trees (map view y)) ∷ []) eo
    ∙ ap (λ y. y ++ Node r f t (list_trees (map view (drop k old))) ∷ []) (sym (take-map view k old))
    ∙ ap (λ y. take k (map view old) ++ Node r f t (list_trees y) ∷ []) (sym (drop-map view k old))
    ∙ ap (λ y. take y (map view old) ++ Node r f t (list_trees (drop y (map view old))) ∷ []) (sym len)

pub adds : (old new kept own : List Part) (x : Part) (r f t n k : ℕ) → k ≡ length old - n → new ≡ kept ++ x ∷ [] → kept ≡ take k old → own ≡ drop k old
    → tree_of x ≡ Node r f t (list_trees (map tree_of own)) → map tree_of new ≡ added (step.Node r f t n) (map tree_of old)
adds = adds_under tree_of
