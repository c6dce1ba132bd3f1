-- The depth of each node, from the last step to the first.
use Rattle.std.proofs.Common.{◌≡◌, ℕ, suc, ◌+◌, ◌-◌, ◌<◌, nat_eq, nat_lt, true, false, cond, List, [], ◌∷◌, ◌++◌, length, Option, Some, None, refl, sym, ap, ◌∙◌, ⊎_elim, arith, append_assoc, append-nil, reverse}
use Rattle.std.proofs.lemmas.List.{reverse-append}
use Rattle.std.proofs.lemmas.Bool.{cases_order, lt-ltb, le-ltb, eq-eqb, ne_eqb}
use Rattle.rl_phrase.specs.declared.steps.Step.{Step}
use Rattle.rl_phrase.specs.declared.steps.Step.TheVariants as step
use Rattle.rl_phrase.specs.Tree.{Tree, Trees, Token, Node, none, more}
use Rattle.rl_phrase.specs.Steps.{size, tree_steps, steps_of}
use Rattle.rl_phrase.specs.Build.{one_less, above_after, found_after}
use Rattle.rl_phrase.specs.Depth.{either, first_below, first_among}

-- the node at the limit that is found last, over the steps from the last on
abbrev pub scan : ℕ → List Step → List ℕ → Option ℕ → Option ℕ
scan limit [] above found = found
scan limit (s ∷ ss) above found = scan limit ss (above_after s above) (found_after s limit (length above) found)

abbrev seen_node : ℕ → ℕ → ℕ → Option ℕ → Option ℕ
seen_node limit depth from found = cond (nat_eq depth limit) (Some from) found

-- what a tree at this depth has at the limit
abbrev deep : ℕ → ℕ → Tree → Option ℕ
deep limit depth t = cond (nat_lt limit depth) None (first_below t (limit - depth))

abbrev deep_among : ℕ → ℕ → Trees → Option ℕ
deep_among limit depth ts = cond (nat_lt limit depth) None (first_among ts (limit - depth))

deep_more : (limit depth : ℕ) (t : Tree) (ts : Trees) → deep_among limit depth (more t ts) ≡ either (deep limit depth t) (deep_among limit depth ts)
deep_more limit depth t ts = (elim (nat_lt limit depth) as (λ b. cond b None (either (first_below t (limit - depth)) (first_among ts (limit - depth))) ≡ either (cond b None (first_below t (limit - depth))) (cond b None (first_among ts (limit - depth)))) [ true ↦ refl | false ↦ refl ])

either_assoc : (a b c : Option ℕ) → either (either a b) c ≡ either a (either b c)
either_assoc None b c = refl
either_assoc (Some n) b c = refl

either_none : (a : Option ℕ) → either a None ≡ a
either_none None = refl
either_none (Some n) = refl

none_deep : (limit depth : ℕ) → deep_among limit depth none ≡ None
none_deep limit depth = (elim (nat_lt limit depth) as (λ b. cond {A = Option ℕ} b None None ≡ None) [ true ↦ refl | false ↦ refl ])

token_deep : (limit depth t : ℕ) → deep limit depth (Token t) ≡ None
token_deep limit depth t = (elim (nat_lt limit depth) as (λ b. cond {A = Option ℕ} b None None ≡ None) [ true ↦ refl | false ↦ refl ])

-- a node itself, and what is among its parts
node_deep : (limit d r f t : ℕ) (ps : Trees) (found : Option ℕ) → either (deep limit d (Node r f t ps)) found ≡ either (deep_among limit (suc d) ps) (seen_node limit d f found)
node_deep limit d r f t ps found = ⊎_elim below (⊎_elim at_limit above) (cases_order limit d)
  where
    below : limit ≡ d → either (deep limit d (Node r f t ps)) found ≡ either (deep_among limit (suc d) ps) (seen_node limit d f found)
    below e =
        let a : nat_lt limit d ≡ false = le-ltb limit d (omega arith) in
        let b : nat_lt limit (suc d) ≡ true = lt-ltb limit (suc d) (omega arith) in
        let c : nat_eq d limit ≡ true = eq-eqb d limit (omega arith) in
        let z : limit - d ≡ 0 = omega arith in
        ap (λ x. either (cond x None (first_below (Node r f t ps) (limit - d))) found) a
        ∙ ap (λ x. either (first_below (Node r f t ps) x) found) z
        ∙ sym (ap (λ x. either (cond x None (first_among ps (limit - suc d))) (seen_node limit d f found)) b ∙ ap (λ x. cond x (Some f) found) c)

    at_limit : limit < d → either (deep limit d (Node r f t ps)) found ≡ either (deep_among limit (suc d) ps) (seen_node limit d f found)
    at_limit e =
        let a : nat_lt limit d ≡ true = lt-ltb limit d (omega arith) in
        let b : nat_lt limit (suc d) ≡ true = lt-ltb limit (suc d) (omega arith) in
        let c : nat_eq d limit ≡ false = ne_eqb d limit (omega arith) in
        ap (λ x. either (cond x None (first_below (Node r f t ps) (limit - d))) found) a
        ∙ sym (ap (λ x. either (cond x None (first_among ps (limit - suc d))) (seen_node limit d f found)) b ∙ ap (λ x. cond x (Some f) found) c)

    above : d < limit → either (deep limit d (Node r f t ps)) found ≡ either (deep_among limit (suc d) ps) (seen_node limit d f found)
    above e =
        let a : nat_lt limit d ≡ false = le-ltb limit d (omega arith) in
        let b : nat_lt limit (suc d) ≡ false = le-ltb limit (suc d) (omega arith) in
        let c : nat_eq d limit ≡ false = ne_eqb d limit (omega arith) in
        let z : limit - d ≡ suc (limit - suc d) = omega arith in
        ap (λ x. either (cond x None (first_below (Node r f t ps) (limit - d))) found) a
        ∙ ap (λ x. either (first_below (Node r f t ps) x) found) z
        ∙ sym (ap (λ x. either (cond x None (first_among ps (limit - suc d))) (seen_node limit d f found)) b ∙ ap (λ x. either (first_among ps (limit - suc d)) (cond x (Some f) found)) c)

-- the last trees come first
turned : (xs ys ss : List Step) → reverse (xs ++ ys) ++ ss ≡ reverse ys ++ (reverse xs ++ ss)
turned xs ys ss = ap (λ x. x ++ ss) (reverse-append xs ys) ∙ append_assoc (reverse ys) (reverse xs) ss

mutual
  scan_tree : (limit : ℕ) (t : Tree) (ss : List Step) (above : List ℕ) (found : Option ℕ)
      → scan limit (reverse (tree_steps t) ++ ss) above found ≡ scan limit ss (one_less above) (either (deep limit (length above) t) found)
  scan_tree limit (Token t) ss above found = ap (λ x. scan limit ss (one_less above) (either x found)) (sym (token_deep limit (length above) t))
  scan_tree limit (Node r f t none) ss above found =
      ap (λ x. scan limit ss (one_less above) (either x (seen_node limit (length above) f found))) (sym (none_deep limit (suc (length above))))
      ∙ ap (λ x. scan limit ss (one_less above) x) (sym (node_deep limit (length above) r f t none found))
  scan_tree limit (Node r f t (more p ps)) ss above found =
      let node = step.Node r f t (suc (size ps)) in
      let all = tree_steps p ++ steps_of ps in
      let seen = seen_node limit (length above) f found in
      let ne : nat_eq (suc (size ps)) 0 ≡ false = ne_eqb (suc (size ps)) 0 (omega arith) in
      let n : suc (size ps) ≡ size ps + suc 0 = omega arith in
      ap (λ x. scan limit x above found) (turned all (node ∷ []) ss)
      ∙ ap (λ b. scan limit (reverse all ++ ss) (cond b (one_less above) (suc (size ps) ∷ above)) seen) ne
      ∙ ap (λ x. scan limit x (suc (size ps) ∷ above) seen) (turned (tree_steps p) (steps_of ps) ss)
      ∙ ap (λ x. scan limit (reverse (steps_of ps) ++ (reverse (tree_steps p) ++ ss)) (x ∷ above) seen) n
      ∙ scan_trees limit ps (reverse (tree_steps p) ++ ss) 0 above seen
      ∙ scan_tree limit p ss (suc 0 ∷ above) (either (deep_among limit (suc (length above)) ps) seen)
      ∙ ap (λ x. scan limit ss (one_less above) x)
      (sym (either_assoc (deep limit (suc (length above)) p) (deep_among limit (suc (length above)) ps) seen)
      ∙ ap (λ x. either x seen) (sym (deep_more limit (suc (length above)) p ps))
      ∙ sym (node_deep limit (length above) r f t (more p ps) found))

  -- and more trees are to come before them
  scan_trees : (limit : ℕ) (ts : Trees) (ss : List Step) (k : ℕ) (above : List ℕ) (found : Option ℕ)
      → scan limit (reverse (steps_of ts) ++ ss) ((size ts + suc k) ∷ above) found ≡ scan limit ss (suc k ∷ above) (either (deep_among limit (suc (length above)) ts) found)
  scan_trees limit none ss k above found =
      let z : 0 + suc k ≡ suc k = omega arith in
      ap (λ x. scan limit ss (x ∷ above) found) z
      ∙ ap (λ x. scan limit ss (suc k ∷ above) (either x found)) (sym (none_deep limit (suc (length above))))
  scan_trees limit (more t ts) ss k above found =
      let n : suc (size ts) + suc k ≡ size ts + suc (suc k) = omega arith in
      let lt : nat_lt 1 (suc (suc k)) ≡ true = lt-ltb 1 (suc (suc k)) (omega arith) in
      let less : suc (suc k) - 1 ≡ suc k = omega arith in
      let last = either (deep_among limit (suc (length above)) ts) found in
      ap (λ x. scan limit x ((suc (size ts) + suc k) ∷ above) found) (turned (tree_steps t) (steps_of ts) ss)
      ∙ ap (λ x. scan limit (reverse (steps_of ts) ++ (reverse (tree_steps t) ++ ss)) (x ∷ above) found) n
      ∙ scan_trees limit ts (reverse (tree_steps t) ++ ss) (suc k) above found
      ∙ scan_tree limit t ss (suc (suc k) ∷ above) last
      ∙ ap (λ b. scan limit ss (cond b ((suc (suc k) - 1) ∷ above) (one_less above)) (either (deep limit (suc (length above)) t) last)) lt
      ∙ ap (λ x. scan limit ss (x ∷ above) (either (deep limit (suc (length above)) t) last)) less
      ∙ ap (λ x. scan limit ss (suc k ∷ above) x)
      (sym (either_assoc (deep limit (suc (length above)) t) (deep_among limit (suc (length above)) ts) found)
      ∙ ap (λ x. either x found) (sym (deep_more limit (suc (length above)) t ts)))

-- over all steps of a tree
pub scan_one : (limit : ℕ) (t : Tree) → scan limit (reverse (tree_steps t)) [] None ≡ first_below t limit
scan_one limit t =
    let le : nat_lt limit 0 ≡ false = le-ltb limit 0 (omega arith) in
    let z : limit - 0 ≡ limit = omega arith in
    ap (λ x. scan limit x [] None) (sym (append-nil (reverse (tree_steps t))))
    ∙ scan_tree limit t [] [] None
    ∙ either_none (deep limit 0 t)
    ∙ ap (λ b. cond b None (first_below t (limit - 0))) le
    ∙ ap (λ x. first_below t x) z
