-- The ends of a rising list are its extremes.
use Rattle.std.proofs.Common.{◌≡◌, ℕ, suc, ◌-◌, List, [], ◌∷◌, length, Option, Some, None, refl, ap, sym, ◌∙◌, arith, if◌then◌else◌}
use Rattle.std.specs.List.{slice_get, fold}
use Rattle.std.specs.declared.cmp.Ordering.{Ordering}
use Rattle.std.specs.declared.cmp.Ordering.TheVariants.{Less, Equal, Greater}
use Rattle.std.specs.Ordering.{is_gt, is_lt, ordering_reverse}
use Rattle.rl_value.specs.Plain.{Plain}
use Rattle.rl_value.specs.Order.{plain_cmp}
use Rattle.rl_value.specs.Laws.{plain_cmp_total}
use Rattle.rl_value.specs.Rising.{Rises, AllAbove}
use Rattle.rl_collections.specs.Extremes.{larger, smaller, greatest, least}

turned : (t u : Plain) → plain_cmp t u ≡ Less → plain_cmp u t ≡ Greater
turned t u e = plain_cmp_total.antisymm u t ∙ ap ordering_reverse e

larger-above : (t u : Plain) → plain_cmp t u ≡ Less → larger t u ≡ u
larger-above t u e = ap (λ o. if is_gt o then u else t) (turned t u e)

smaller-above : (t u : Plain) → plain_cmp t u ≡ Less → smaller t u ≡ t
smaller-above t u e = ap (λ o. if is_lt o then u else t) (turned t u e)

greatest_last : (t : Plain) (us : List Plain) → Rises plain_cmp (t ∷ us) → Some (fold larger t us) ≡ slice_get (t ∷ us) (length us)
greatest_last t [] r = refl
greatest_last t (u ∷ us) r = ap (λ w. Some (fold larger w us)) (larger-above t u r.0.0) ∙ greatest_last u us r.1

pub greatest-rising : (ts : List Plain) → Rises plain_cmp ts → greatest ts ≡ slice_get ts (length ts - 1)
greatest-rising [] r = refl
greatest-rising (t ∷ us) r =
    let last : length (t ∷ us) - 1 ≡ length us = omega arith in
    rw last (greatest_last t us r)

least_first : (t : Plain) (us : List Plain) → AllAbove plain_cmp t us → fold smaller t us ≡ t
least_first t [] a = refl
least_first t (u ∷ us) a = ap (λ w. fold smaller w us) (smaller-above t u a.0) ∙ least_first t us a.1

pub least-rising : (ts : List Plain) → Rises plain_cmp ts → least ts ≡ slice_get ts 0
least-rising [] r = refl
least-rising (t ∷ us) r = ap Some (least_first t us r.0)
