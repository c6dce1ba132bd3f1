-- Entries of maps: that their keys rise, and steps of a comparison.
use Rattle.std.proofs.Common.{◌≡◌, ℕ, zero, suc, ◌+◌, ◌-◌, ◌<◌, ◌≤◌, ◌⊎◌, inl, inr, min, List, [], ◌∷◌, length, get_or, drop, map, refl, ap, ◌∙◌, arith, length-drop}
use Rattle.std.proofs.lemmas.Bool.Decides.{nat_tests}
use Rattle.std.specs.declared.cmp.Ordering.{Ordering}
use Rattle.std.specs.declared.cmp.Ordering.TheVariants.{Less, Equal, Greater}
use Rattle.std.specs.Ordering.{nat_cmp, match_ordering}
use Rattle.std.specs.BTreeMap.{insert_entry}
use Rattle.rl_value.specs.Plain.{Plain, pairs_of, entries_of, entries_of-pairs_of, plain_size, pairs_size}
use Rattle.rl_value.specs.Order.{plain_cmp, pairs_cmp}
use Rattle.rl_value.specs.Laws.{plain_cmp_total, plain_exact}
use Rattle.rl_value.specs.Rising.{Rises, placed, put}
use Rattle.rl_value.specs.Entries.{put_all}
use Rattle.rl_value.specs.View.{pair_of}
use Rattle.rl_value.specs.declared.value.Entry.{Entry}
use Rattle.rl_value.proofs.RisingLemmas.{Rises-put}
use Rattle.rl_value.proofs.OrderLemmas.{one_ends, nat_cmp-less}

abbrev keys : List (Plain × Plain) → List Plain
keys = map (λ p. p.0)

keys-insert_entry : (es : List (Plain × Plain)) (k v : Plain) → keys (insert_entry plain_cmp es k v) ≡ put plain_cmp k (keys es)
keys-insert_entry [] k v = refl
keys-insert_entry (e ∷ es) k v = by (keys-insert_entry es k v) (plain_cmp k e.0)
  where
    by : keys (insert_entry plain_cmp es k v) ≡ put plain_cmp k (keys es) → (o : Ordering)
        → keys (match_ordering o ((k, v) ∷ e ∷ es) ((e.0, v) ∷ es) (e ∷ insert_entry plain_cmp es k v)) ≡ placed plain_cmp o k e.0 (keys es) (put plain_cmp k (keys es))
    by later Less = refl
    by later Equal = refl
    by later Greater = ap (λ ks. e.0 ∷ ks) later

keys_rise : (es ps : List (Plain × Plain)) → Rises plain_cmp (keys es) → Rises plain_cmp (keys (put_all es ps))
keys_rise es [] r = r
keys_rise es (p ∷ ps) r = keys_rise (insert_entry plain_cmp es p.0 p.1) ps (rw keys-insert_entry (Rises-put plain_cmp_total plain_exact p.0 (keys es) r))

keys-pairs : (es : List Entry) → keys (map pair_of es) ≡ map (λ e. e.key) es
keys-pairs [] = refl
keys-pairs (e ∷ es) = ap (λ ks. e.key ∷ ks) (keys-pairs es)

pub entries_rise : (es : List Entry) (ps : List (Plain × Plain)) → map pair_of es ≡ put_all [] ps → Rises plain_cmp (map (λ e. e.key) es)
entries_rise es ps e = rw (← keys-pairs es, e) (keys_rise [] ps tt)

pub entry_size : (es : List Entry) (i : ℕ) (x : Entry) → i < length es → x ≡ get_or es i x → plain_size x.key + plain_size x.value ≤ pairs_size (pairs_of (map pair_of es))
entry_size [] i x h e = absurd (omega arith)
entry_size (y ∷ ys) zero x h e = omega (arith, ap (λ (w : Entry). plain_size w.key) e, ap (λ (w : Entry). plain_size w.value) e)
entry_size (y ∷ ys) (suc i) x h e = let below : i < length ys = omega arith in omega (arith, entry_size ys i x below e)

by_lengths : (xs ys : List Entry) → (length xs ≡ 0) ⊎ (length ys ≡ 0) → pairs_cmp (pairs_of (map pair_of xs)) (pairs_of (map pair_of ys)) ≡ nat_cmp (length xs) (length ys)
by_lengths [] [] h = refl
by_lengths [] (y ∷ ys) h = grind (arith, nat_tests)
by_lengths (x ∷ xs) [] h = grind (arith, nat_tests)
by_lengths (x ∷ xs) (y ∷ ys) (inl h) = absurd (omega arith)
by_lengths (x ∷ xs) (y ∷ ys) (inr h) = absurd (omega arith)

pub pairs_cmp_end : (a b : List Entry) (n : ℕ) → n ≡ min (length a) (length b)
    → pairs_cmp (pairs_of (map pair_of (drop n a))) (pairs_of (map pair_of (drop n b))) ≡ nat_cmp (length a) (length b)
pairs_cmp_end a b n e =
    let la : length (drop n a) ≡ length a - min (length a) (length b) = omega (arith, length-drop n a) in
    let lb : length (drop n b) ≡ length b - min (length a) (length b) = omega (arith, length-drop n b) in
    let ends : (length (drop n a) ≡ 0) ⊎ (length (drop n b) ≡ 0) = rw (la, lb) (one_ends (length a) (length b)) in
    by_lengths (drop n a) (drop n b) ends ∙ rw (la, lb) (nat_cmp-less (length a) (length b))

-- the keys of a map that is opened
pub opened : (es : List Entry) → map (λ p. p.0) (entries_of (pairs_of (map pair_of es))) ≡ map (λ e. e.key) es
opened es = rw entries_of-pairs_of (keys-pairs es)
