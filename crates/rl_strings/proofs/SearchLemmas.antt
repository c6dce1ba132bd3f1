-- Where a text stands in another.
use Rattle.std.proofs.Common.{◌≡◌, ℕ, zero, suc, ◌+◌, ◌<◌, ◌≤◌, Bool, true, false, ◌&&◌, eqb, List, [], ◌∷◌, ◌++◌, length, drop, take, Option, Some, None, MatchOption, is_some, refl, ap, sym, ◌∙◌, arith, nat_eq, if◌then◌else◌}
use Rattle.std.specs.List.{starts_with}
use Rattle.std.specs.Option.{option_map}
use Rattle.std.specs.Str.Pattern.{FindsText, LacksTextAt, MatchBeginsAt}
use Rattle.std.proofs.lemmas.Str.Pattern.{starts_text}
use Rattle.std.proofs.lemmas.Bool.Decides.{nat_tests}
use Rattle.rl_strings.specs.Search.{first_at}

same : (n : ℕ) → nat_eq n n ≡ true
same n = grind (arith, nat_tests)

starts : (part rest : List ℕ) → starts_with nat_eq (part ++ rest) part ≡ true
starts [] rest = refl
starts (b ∷ bs) rest = rw (same b) (starts bs rest)

here : (part s rest : List ℕ) → s ≡ part ++ rest → starts_with nat_eq s part ≡ true
here part s rest e = ap (λ t. starts_with nat_eq t part) e ∙ starts part rest

not_here : (part s : List ℕ) → LacksTextAt part s 0 → starts_with nat_eq s part ≡ false
not_here part s l = sym (starts_text false part s l)

pub found : (part s rest : List ℕ) (i : ℕ) → ((k : ℕ) → k < i → LacksTextAt part s k) → drop i s ≡ part ++ rest → i ≤ length s → first_at part s ≡ Some i
found part [] rest zero l e h = ap (λ b. if b then Some 0 else None) (here part [] rest e)
found part [] rest (suc i) l e h = absurd (omega arith)
found part (b ∷ bs) rest zero l e h = ap (λ t. if t then Some 0 else option_map suc (first_at part bs)) (here part (b ∷ bs) rest e)
found part (b ∷ bs) rest (suc i) l e h =
    ap (λ t. if t then Some 0 else option_map suc (first_at part bs)) (not_here part (b ∷ bs) (l 0 (omega arith)))
    ∙ ap (option_map suc) (found part bs rest i (λ k less. l (suc k) (omega arith)) e (omega arith))

pub absent : (part s : List ℕ) → ((k : ℕ) → k ≤ length s → LacksTextAt part s k) → first_at part s ≡ None
absent part [] l = ap (λ b. if b then Some 0 else None) (not_here part [] (l 0 (omega arith)))
absent part (b ∷ bs) l =
    ap (λ t. if t then Some 0 else option_map suc (first_at part bs)) (not_here part (b ∷ bs) (l 0 (omega arith)))
    ∙ ap (option_map suc) (absent part bs (λ k less. l (suc k) (omega arith)))

pub is_found : (part s : List ℕ) (r : Option ℕ) → MatchOption r (FindsText part s None) (MatchBeginsAt (FindsText part) s) → is_some r ≡ is_some (first_at part s)
is_found part s None f = ap is_some (sym (absent part s f))
is_found part s (Some i) f = ap is_some (sym (found part s (drop f.0 s) i f.1.0 f.1.1.split f.3.0))
