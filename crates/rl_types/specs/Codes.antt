-- How types and declarations are told apart.
use Rattle.std.specs.Prelude.{◌≡◌, ℕ, List, refl}
use Rattle.std.specs.Coded.{Coded, code_by, coded×, coded_ℕ, coded_list}
use base.Stored.{Gv, gnil, gnum, gcons}
use Rattle.rl_types.specs.PlainType.{PlainType, PlainTypes, bool, int, str, loc, void, value, list, set, mapping, tuple, named, nil, cons}
use Rattle.rl_types.specs.Declarations.{Constructor, Declarations}

abbrev pub coded_name : Coded (List ℕ)
coded_name = coded_list coded_ℕ

abbrev mutual
  pub type_code : PlainType → Gv
  type_code bool = gcons (gnum 0) gnil
  type_code int = gcons (gnum 1) gnil
  type_code str = gcons (gnum 2) gnil
  type_code loc = gcons (gnum 3) gnil
  type_code void = gcons (gnum 4) gnil
  type_code value = gcons (gnum 5) gnil
  type_code (list t) = gcons (gnum 6) (type_code t)
  type_code (set t) = gcons (gnum 7) (type_code t)
  type_code (mapping k v) = gcons (gnum 8) (gcons (type_code k) (type_code v))
  type_code (tuple ts) = gcons (gnum 9) (types_code ts)
  type_code (named n) = gcons (gnum 10) (coded_name.code n)

  pub types_code : PlainTypes → Gv
  types_code nil = gnil
  types_code (cons t ts) = gcons (type_code t) (types_code ts)

mutual
  pub type_inj : (a b : PlainType) → type_code a ≡ type_code b → a ≡ b
  type_inj bool bool p = refl
  type_inj int int p = refl
  type_inj str str p = refl
  type_inj loc loc p = refl
  type_inj void void p = refl
  type_inj value value p = refl
  type_inj (list a) (list b) p = let e : a ≡ b = type_inj a b (cc) in cc
  type_inj (set a) (set b) p = let e : a ≡ b = type_inj a b (cc) in cc
  type_inj (mapping a u) (mapping b v) p = let e : a ≡ b = type_inj a b (cc) in let f : u ≡ v = type_inj u v (cc) in cc
  type_inj (tuple a) (tuple b) p = let e : a ≡ b = types_inj a b (cc) in cc
  type_inj (named a) (named b) p = let e : a ≡ b = coded_name.inj a b (cc) in cc
  type_inj a b p = cc

  pub types_inj : (a b : PlainTypes) → types_code a ≡ types_code b → a ≡ b
  types_inj nil nil p = refl
  types_inj (cons a u) (cons b v) p = let e : a ≡ b = type_inj a b (cc) in let f : u ≡ v = types_inj u v (cc) in cc
  types_inj a b p = cc

abbrev pub coded_type : Coded PlainType
coded_type = record { code = type_code; inj = type_inj }

abbrev pub coded_constructor : Coded Constructor
coded_constructor =
    code_by (List ℕ × (List ℕ × List (List ℕ × PlainType)))
    (coded× coded_name (coded× coded_name (coded_list (coded× coded_name coded_type))))
    (λ c. (c.owner, (c.name, c.fields))) (λ p. record { owner = p.0; name = p.1.0; fields = p.1.1 }) (λ _. refl)

abbrev pub coded_declarations : Coded Declarations
coded_declarations =
    code_by (List (List ℕ) × (List Constructor × List (List ℕ)))
    (coded× (coded_list coded_name) (coded× (coded_list coded_constructor) (coded_list coded_name)))
    (λ d. (d.data_types, (d.constructors, d.sorts))) (λ p. record { data_types = p.0; constructors = p.1.0; sorts = p.1.1 }) (λ _. refl)
