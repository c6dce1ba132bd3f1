-- Steps over the entries of a map.
use Rattle.std.proofs.Common.{◌≡◌, ℕ, zero, suc, Err, ◌+◌, ◌<◌, ◌≤◌, Bool, true, false, not, List, [], ◌∷◌, ◌++◌, length, get_or, drop, map, refl, ap, sym, ◌∙◌, append_assoc, arith}
use Rattle.std.proofs.lemmas.List.{drop_all}
use Rattle.rl_value.specs.Plain.{Plain, plains_of, plain_size, plains_size, plain_height, plains_height}
use Rattle.rl_value.specs.Built.{Builds}
use Rattle.rl_value.specs.declared.build_end.BuildEnd.{BuildEnd}
use Rattle.rl_value.specs.declared.build_end.BuildEnd.TheVariants.{TooLarge, OutOfMemory}
use Rattle.rl_arguments.specs.Lists.{BuildsList}
use Rattle.rl_arguments.specs.Arguments.{list_of}
use Rattle.rl_value.specs.Laws.{plain_eq}
use Rattle.rl_value.specs.View.{pair_of}
use Rattle.rl_value.specs.declared.value.Entry.{Entry}
use Rattle.rl_collections.specs.Maps.{without, row}
use Rattle.rl_collections.proofs.ListsLemmas.{drop_at}

pub kept : (done : List (Plain × Plain)) (es : List Entry) (key : Plain) (i : ℕ) (e : Entry) → i < length es → e ≡ get_or es i e → plain_eq e.key key ≡ false
    → (done ++ (e.key, e.value) ∷ []) ++ without key (map pair_of (drop (i + 1) es)) ≡ done ++ without key (map pair_of (drop i es))
kept done es key i e h is n = rw (drop_at es i e h is, n) (append_assoc done ((e.key, e.value) ∷ []) (without key (map pair_of (drop (i + 1) es))))

pub passed : (es : List Entry) (key : Plain) (i : ℕ) (e : Entry) → i < length es → e ≡ get_or es i e → plain_eq e.key key ≡ true
    → without key (map pair_of (drop (i + 1) es)) ≡ without key (map pair_of (drop i es))
passed es key i e h is y = rw (drop_at es i e h is, y) refl

append-nil : {A : Type 0} (xs : List A) → xs ++ [] ≡ xs
append-nil [] = refl
append-nil (x ∷ xs) = ap (λ ys. x ∷ ys) (append-nil xs)

pub all_kept : (done : List (Plain × Plain)) (es : List Entry) (key : Plain) (i : ℕ) → length es ≤ i
    → done ++ without key (map pair_of (drop i es)) ≡ without key (map pair_of es) → done ≡ without key (map pair_of es)
all_kept done es key i h p = let none : drop i es ≡ [] = drop_all i es h in sym (append-nil done) ∙ (rw none at p)

pub keys_pairs : (es : List Entry) → map (λ p. p.0) (map pair_of es) ≡ map (λ e. e.key) es
keys_pairs [] = refl
keys_pairs (e ∷ es) = ap (λ ks. e.key ∷ ks) (keys_pairs es)

pub values_pairs : (es : List Entry) → map (λ p. p.1) (map pair_of es) ≡ map (λ e. e.value) es
values_pairs [] = refl
values_pairs (e ∷ es) = ap (λ vs. e.value ∷ vs) (values_pairs es)

pub rows_pairs : (es : List Entry) → map row (map pair_of es) ≡ map (λ e. row (pair_of e)) es
rows_pairs [] = refl
rows_pairs (e ∷ es) = ap (λ rs. row (e.key, e.value) ∷ rs) (rows_pairs es)

-- a row that does not fit spoils the list of the rows
row_size : (es : List Entry) (i : ℕ) (e : Entry) → i < length es → e ≡ get_or es i e → plain_size (row (pair_of e)) ≤ plains_size (plains_of (map (λ e. row (pair_of e)) es))
row_size [] i e h is = absurd (omega arith)
row_size (x ∷ xs) zero e h is = omega (arith, ap (λ w. plain_size (row (pair_of w))) is)
row_size (x ∷ xs) (suc i) e h is = let below : i < length xs = omega arith in omega (arith, row_size xs i e below is)

row_height : (es : List Entry) (i : ℕ) (e : Entry) → i < length es → e ≡ get_or es i e → plain_height (row (pair_of e)) ≤ plains_height (plains_of (map (λ e. row (pair_of e)) es))
row_height [] i e h is = absurd (omega arith)
row_height (x ∷ xs) zero e h is = omega (arith, ap (λ w. plain_height (row (pair_of w))) is)
row_height (x ∷ xs) (suc i) e h is = let below : i < length xs = omega arith in omega (arith, row_height xs i e below is)

pub row_spoils : (es : List Entry) (i : ℕ) (e : Entry) (end : BuildEnd) → i < length es → e ≡ get_or es i e → Builds (row (pair_of e)) (Err end)
    → BuildsList (map (λ e. row (pair_of e)) es) (Err end)
row_spoils es i e TooLarge h is b = λ f. b (record { size = omega (arith, f.size, row_size es i e h is); height = omega (arith, f.height, row_height es i e h is) })
row_spoils es i e OutOfMemory h is b = tt

pub rows_unbuilt : (es : List Entry) (end : BuildEnd) → BuildsList (map (λ e. row (pair_of e)) es) (Err end) → Builds (list_of (map row (map pair_of es))) (Err end)
rows_unbuilt es TooLarge b = rw (rows_pairs es) b
rows_unbuilt es OutOfMemory b = tt
