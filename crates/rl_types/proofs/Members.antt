-- Values and types side by side.
use Rattle.std.proofs.Common.{◌≡◌, ◌≢◌, ℕ, suc, ◌+◌, ◌<◌, Bool, true, false, ◌&&◌, List, [], ◌∷◌, map, length, drop, get_or, refl, sym, ap, ◌∙◌, add-one, arith}
use Rattle.std.proofs.Math.Seq.{drop-cons}
use Rattle.rl_syntax.specs.declared.ty.Field.{Field}
use Rattle.rl_value.specs.Plain.{Plain, plains_of, Pairs}
use Rattle.rl_value.specs.Plain as v
use Rattle.rl_types.specs.PlainType.{PlainType, field_type, types_of}
use Rattle.rl_types.specs.PlainType as t
use Rattle.rl_types.specs.Declarations.{Declarations}
use Rattle.rl_types.specs.Types.{has, each_has, pairs_have, value_count}
use Rattle.rl_types.proofs.Fields.{and-false}

pub value_count_plains_of : (us : List Plain) → value_count (plains_of us) ≡ length us
value_count_plains_of [] = refl
value_count_plains_of (u ∷ us) = omega (arith, value_count_plains_of us)

-- where there are not as many values as types
pub each_has-apart : (d : Declarations) (us : List Plain) (fs : List Field) → length fs ≢ length us → each_has d (plains_of us) (types_of (map field_type fs)) ≡ false
unfolding each_has
each_has-apart d [] [] n = absurd (n refl)
each_has-apart d [] (f ∷ fs) n = refl
each_has-apart d (u ∷ us) [] n = refl
each_has-apart d (u ∷ us) (f ∷ fs) n = and-false _ _ (each_has-apart d us fs (λ e. n (ap suc e)))

has-value : (d : Declarations) (u : Plain) → has d u t.value ≡ true
unfolding has
has-value d (v.bool b) = refl
has-value d (v.int n) = refl
has-value d (v.text b) = refl
has-value d (v.location s p o) = refl
has-value d (v.tuple us) = refl
has-value d (v.list us) = refl
has-value d (v.set us) = refl
has-value d (v.mapping ps) = refl
has-value d (v.node n us) = refl
has-value d (v.tree s us) = refl
has-value d (v.leaf b) = refl

-- both keys and contents
four : (a b c d : Bool) → ((a && b) && (c && d)) ≡ (((a && true) && c) && ((true && b) && d))
four true true true d = refl
four true true false d = refl
four true false true d = refl
four true false false d = refl
four false true c d = refl
four false false c d = refl

pairs_have-apart : (d : Declarations) (ps : Pairs) (K V : PlainType) → pairs_have d ps K V ≡ (pairs_have d ps K t.value && pairs_have d ps t.value V)
unfolding pairs_have
pairs_have-apart d v.no_pairs K V = refl
pairs_have-apart d (v.pair k u ps) K V =
    ap (λ b. (has d k K && has d u V) && b) (pairs_have-apart d ps K V)
    ∙ four (has d k K) (has d u V) (pairs_have d ps K t.value) (pairs_have d ps t.value V)
    ∙ (λ i. ((has d k K && sym (has-value d u) i) && pairs_have d ps K t.value) && ((sym (has-value d k) i && has d u V) && pairs_have d ps t.value V))

mapping_apart : (d : Declarations) (u : Plain) (K V : PlainType) → has d u (t.mapping K V) ≡ (has d u (t.mapping K t.value) && has d u (t.mapping t.value V))
unfolding has
mapping_apart d (v.mapping ps) K V = pairs_have-apart d ps K V
mapping_apart d u K V = refl

module _ (d : Declarations) (u : Plain) (T K V : PlainType) (is : T ≡ t.mapping K V) (keys contents : Bool) (keys_is : keys ≡ has d u (t.mapping K t.value)) where
  pub has-keys : keys ≡ true → contents ≡ has d u (t.mapping t.value V) → contents ≡ has d u T
  has-keys e contents_is = contents_is ∙ ap (λ b. b && has d u (t.mapping t.value V)) (sym e ∙ keys_is) ∙ sym (mapping_apart d u K V) ∙ ap (has d u) (sym is)

  pub has-no_keys : keys ≡ false → keys ≡ has d u T
  has-no_keys e = e ∙ ap (λ b. b && has d u (t.mapping t.value V)) (sym e ∙ keys_is) ∙ sym (mapping_apart d u K V) ∙ ap (has d u) (sym is)

-- one more of the values and types
module _ (d : Declarations) (us : List Plain) (fs : List Field) (i : ℕ) (u : Plain) (f : Field) (all : Bool) (us_reach : i < length us) (fs_reach : i < length fs) (u_is : u ≡ get_or us i u) (so_far : each_has d (plains_of (drop i us)) (types_of (map field_type (drop i fs))) ≡ all) where
  opened : (has d u (field_type (get_or fs i f)) && each_has d (plains_of (drop (suc i) us)) (types_of (map field_type (drop (suc i) fs)))) ≡ all
  unfolding each_has
  opened =
      ap (λ x. has d x (field_type (get_or fs i f)) && each_has d (plains_of (drop (suc i) us)) (types_of (map field_type (drop (suc i) fs)))) u_is
      ∙ ap (λ xs. each_has d (plains_of xs) (types_of (map field_type (get_or fs i f ∷ drop (suc i) fs)))) (sym (drop-cons us i u us_reach))
      ∙ ap (λ xs. each_has d (plains_of (drop i us)) (types_of (map field_type xs))) (sym (drop-cons fs i f fs_reach))
      ∙ so_far

  pub each_has-more : has d u (field_type (get_or fs i f)) ≡ true → each_has d (plains_of (drop (i + 1) us)) (types_of (map field_type (drop (i + 1) fs))) ≡ all
  each_has-more e = rw add-one (ap (λ b. b && each_has d (plains_of (drop (suc i) us)) (types_of (map field_type (drop (suc i) fs)))) (sym e) ∙ opened)

  pub each_has-stop : has d u (field_type (get_or fs i f)) ≡ false → false ≡ all
  each_has-stop e = ap (λ b. b && each_has d (plains_of (drop (suc i) us)) (types_of (map field_type (drop (suc i) fs)))) (sym e) ∙ opened
