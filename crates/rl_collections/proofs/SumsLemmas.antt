-- Sums of numbers that are in range.
use Rattle.std.proofs.Common.{◌≡◌, ℕ, ℤ, pos, negsuc, suc, ◌+◌, ◌+ℤ◌, ◌<◌, ◌^◌, Bool, true, false, List, [], ◌∷◌, ◌++◌, length, get_or, drop, Option, Some, None, refl, ap, sym, ◌∙◌, append_assoc, arith}
use Rattle.std.specs.Int.{w128}
use Rattle.std.specs.Int.RustNames.{FitsSigned}
use Rattle.std.proofs.lemmas.Bool.Decides.{nat_tests}
use Rattle.rl_value.specs.Plain.{Plain, int}
use Rattle.rl_value.specs.Readers.{as_int}
use Rattle.rl_exception.specs.Answer.{Answer, Throws}
use Rattle.rl_exception.specs.Exceptions.{out_of_range}
use Rattle.rl_collections.specs.Sums.{is_in_range, in_front, numbers_in, added}
use Rattle.rl_collections.proofs.ListsLemmas.{drop_at}

in_range : (z : ℤ) → FitsSigned w128 z → is_in_range z ≡ true
in_range (pos n) h = grind (arith, nat_tests)
in_range (negsuc n) h = grind (arith, nat_tests)

out : (z : ℤ) → ¬ FitsSigned w128 z → is_in_range z ≡ false
out (pos n) h = grind (arith, nat_tests)
out (negsuc n) h = grind (arith, nat_tests)

pub added_on : (total : ℤ) (ns : List ℤ) (i : ℕ) (n : ℤ) → i < length ns → n ≡ get_or ns i n → FitsSigned w128 (total +ℤ n)
    → added (total +ℤ n) (drop (i + 1) ns) ≡ added total (drop i ns)
added_on total ns i n h is f = rw (drop_at ns i n h is, in_range (total +ℤ n) f) refl

pub added_out : (total : ℤ) (ns : List ℤ) (i : ℕ) (n : ℤ) → i < length ns → n ≡ get_or ns i n → ¬ FitsSigned w128 (total +ℤ n)
    → added total (drop i ns) ≡ Throws out_of_range
added_out total ns i n h is f = rw (drop_at ns i n h is, out (total +ℤ n) f) refl

-- the numbers so far in front of the others
abbrev pub joined : List ℤ → Option (List ℤ) → Option (List ℤ)
joined ns None = None
joined ns (Some ms) = Some (ns ++ ms)

joined_more : (ns : List ℤ) (n : ℤ) (found : Option (List ℤ)) → joined (ns ++ n ∷ []) found ≡ joined ns (in_front (Some n) found)
joined_more ns n None = refl
joined_more ns n (Some ms) = ap Some (append_assoc ns (n ∷ []) ms)

pub numbers_on : (ns : List ℤ) (ts : List Plain) (i : ℕ) (t : Plain) (n : ℤ) → i < length ts → t ≡ get_or ts i t → as_int t ≡ Some n
    → joined (ns ++ n ∷ []) (numbers_in (drop (i + 1) ts)) ≡ joined ns (numbers_in (drop i ts))
numbers_on ns ts i t n h is e = rw (drop_at ts i t h is, e) (joined_more ns n (numbers_in (drop (i + 1) ts)))

pub numbers_none : (ns : List ℤ) (ts : List Plain) (i : ℕ) (t : Plain) → i < length ts → t ≡ get_or ts i t → as_int t ≡ None
    → joined ns (numbers_in (drop i ts)) ≡ None
numbers_none ns ts i t h is e = rw (drop_at ts i t h is, e) refl
