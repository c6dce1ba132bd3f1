-- A text may be cut at the blanks at its ends.
use Rattle.std.proofs.Common.{◌≡◌, ℕ, zero, suc, ◌+◌, ◌-◌, ◌<◌, ◌≤◌, Bool, true, List, length, get_or, reverse, refl, subst, ap, sym, ◌∙◌, arith, add-one}
use Rattle.std.specs.List.{prefix_len, suffix_len}
use Rattle.std.specs.Str.{IsUtf8, IsCharBoundary}
use Rattle.std.proofs.lemmas.List.{get_or-reverse, length-reverse}
use Rattle.std.proofs.lemmas.List.Sums.{prefix_len-le-length, prefix_len_passes}
use Rattle.std.proofs.lemmas.Str.{IsCharBoundary-start, IsCharBoundary-end, IsCharBoundary-before_ascii, IsCharBoundary-after_ascii}
use Rattle.std.proofs.lemmas.Bool.Decides.{nat_tests}
use Rattle.rl_strings.specs.Trimming.{is_blank}

blank_ascii : (b : ℕ) → is_blank b ≡ true → b < 128
blank_ascii b e = grind (arith, nat_tests)

pub front_boundary : (bs : List ℕ) → IsUtf8 bs → IsCharBoundary bs (prefix_len is_blank bs)
front_boundary bs u = by (prefix_len is_blank bs) refl
  where
    by : (n : ℕ) → prefix_len is_blank bs ≡ n → IsCharBoundary bs (prefix_len is_blank bs)
    by zero e = subst (IsCharBoundary bs) (sym e) (IsCharBoundary-start bs u)
    by (suc m) e =
        subst (IsCharBoundary bs) (sym (e ∙ sym (add-one m)))
        (IsCharBoundary-after_ascii bs m u (omega (arith, prefix_len-le-length is_blank bs)) (blank_ascii (get_or bs m 0) (prefix_len_passes is_blank bs m 0 (omega arith))))

pub end_boundary : (bs : List ℕ) → IsCharBoundary bs (length bs - suffix_len is_blank bs)
end_boundary bs = by (suffix_len is_blank bs) refl
  where
    by : (n : ℕ) → suffix_len is_blank bs ≡ n → IsCharBoundary bs (length bs - suffix_len is_blank bs)
    by zero e = let all : length bs ≡ length bs - suffix_len is_blank bs = omega arith in subst (IsCharBoundary bs) all (IsCharBoundary-end bs)
    by (suc m) e =
        let within : m < length bs = omega (arith, prefix_len-le-length is_blank (reverse bs), length-reverse bs) in
        let place : length bs - 1 - m ≡ length bs - suffix_len is_blank bs = omega arith in
        let blank : get_or bs (length bs - 1 - m) 0 < 128 =
        subst (λ b. b < 128) (get_or-reverse bs m 0 within) (blank_ascii (get_or (reverse bs) m 0) (prefix_len_passes is_blank (reverse bs) m 0 (omega arith))) in
        subst (IsCharBoundary bs) place (IsCharBoundary-before_ascii bs (length bs - 1 - m) (omega arith) blank)

pub fewer_behind : (bs : List ℕ) → suffix_len is_blank bs ≤ length bs
fewer_behind bs = omega (arith, prefix_len-le-length is_blank (reverse bs), length-reverse bs)
