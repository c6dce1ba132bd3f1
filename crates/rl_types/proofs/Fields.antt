-- Types of the fields of two types, side by side.
use Rattle.std.proofs.Common.{◌≡◌, ◌≢◌, ◌≤◌, ℕ, suc, Bool, true, false, ◌&&◌, ◌==◌, if◌then◌else◌, List, [], ◌∷◌, ◌++◌, map, length, drop, refl, sym, ap, ◌∙◌, eqb-true, eq-eqb, arith}
use Rattle.std.proofs.lemmas.List.{drop_all, append-nil}
use Rattle.rl_base.specs.declared.place.Place.{Place}
use Rattle.rl_syntax.specs.declared.ty.Ty.{Ty, out-Ty}
use Rattle.rl_syntax.specs.declared.ty.Ty.TheBlock.{shown-the_row-Ty-0}
use denote.Hole.Carrier.{out, shown, hidden}
use Rattle.rl_syntax.specs.declared.ty.Ty.TheFolds.{fold_out-Ty, fold_out-Field}
use Rattle.rl_syntax.specs.declared.ty.Ty.TheVariants.{Map}
use Rattle.rl_syntax.specs.declared.ty.Field.{Field, out-Field}
use Rattle.rl_types.specs.PlainType.{PlainType, mapping, tuple, value, cons, plain_of_form, plain_of_field, plain_type, field_type, types_of}
use Rattle.rl_types.specs.Declarations.{Declarations}
use Rattle.rl_types.specs.Types.{subtype, subtypes, type_count, join, joins}

pub and-false : (a b : Bool) → b ≡ false → (a && b) ≡ false
and-false true b e = e
and-false false b e = refl

-- where there are not as many, one list is not below the other
pub subtypes-apart : (d : Declarations) (xs ys : List Field) → length xs ≢ length ys → subtypes d (types_of (map field_type xs)) (types_of (map field_type ys)) ≡ false
unfolding subtypes
subtypes-apart d [] [] n = absurd (n refl)
subtypes-apart d [] (y ∷ ys) n = refl
subtypes-apart d (x ∷ xs) [] n = refl
subtypes-apart d (x ∷ xs) (y ∷ ys) n = and-false _ _ (subtypes-apart d xs ys (λ e. n (ap suc e)))

pub field_type-out : (field : Field) → field_type field ≡ plain_type (out-Field field).ty
field_type-out field = fold_out-Field PlainType PlainType plain_of_form plain_of_field field

pub plain_type-map : (place : Place) (key content : Ty) → plain_type (Map place key content) ≡ mapping (plain_type key) (plain_type content)
unfolding out-Ty out shown hidden shown-the_row-Ty-0
plain_type-map place key content = fold_out-Ty PlainType PlainType plain_of_form plain_of_field (Map place key content)

pub type_count_types_of : (fields : List Field) → type_count (types_of (map field_type fields)) ≡ length fields
type_count_types_of [] = refl
type_count_types_of (f ∷ fs) = omega (arith, type_count_types_of fs)

-- the joins of the types of fields, side by side
abbrev pub list_joins : Declarations → List Field → List Field → List PlainType
list_joins d [] ys = []
list_joins d (x ∷ xs) [] = []
list_joins d (x ∷ xs) (y ∷ ys) = join d (field_type x) (field_type y) ∷ list_joins d xs ys

pub types_of-list_joins : (d : Declarations) (xs ys : List Field) → types_of (list_joins d xs ys) ≡ joins d (types_of (map field_type xs)) (types_of (map field_type ys))
unfolding joins
types_of-list_joins d [] ys = refl
types_of-list_joins d (x ∷ xs) [] = refl
types_of-list_joins d (x ∷ xs) (y ∷ ys) = ap (λ ts. cons (join d (field_type x) (field_type y)) ts) (types_of-list_joins d xs ys)

-- the joins of the tuples of fields
module _ (d : Declarations) (xs ys : List Field) where
  pub join-tuples : length xs ≡ length ys → join d (tuple (types_of (map field_type xs))) (tuple (types_of (map field_type ys))) ≡ tuple (joins d (types_of (map field_type xs)) (types_of (map field_type ys)))
  unfolding join
  join-tuples e =
      let same : (type_count (types_of (map field_type xs)) == type_count (types_of (map field_type ys))) ≡ true = eq-eqb _ _ (type_count_types_of xs ∙ e ∙ sym (type_count_types_of ys)) in
      ap (λ b. if b then tuple (joins d (types_of (map field_type xs)) (types_of (map field_type ys))) else value) same

  pub join-apart : length xs ≢ length ys → join d (tuple (types_of (map field_type xs))) (tuple (types_of (map field_type ys))) ≡ value
  unfolding join
  join-apart n =
      let T = tuple (joins d (types_of (map field_type xs)) (types_of (map field_type ys))) in
      elim (type_count (types_of (map field_type xs)) == type_count (types_of (map field_type ys))) as (λ b. (type_count (types_of (map field_type xs)) == type_count (types_of (map field_type ys))) ≡ b → (if b then T else value) ≡ value) [
        | true ↦ λ e. absurd (n (sym (type_count_types_of xs) ∙ eqb-true _ _ e ∙ type_count_types_of ys))
        | false ↦ λ e. refl
      ] refl

  -- no field is left
  pub list_joins-end : (i : ℕ) (joined : List PlainType) → length xs ≤ i → joined ++ list_joins d (drop i xs) (drop i ys) ≡ list_joins d xs ys → types_of joined ≡ joins d (types_of (map field_type xs)) (types_of (map field_type ys))
  list_joins-end i joined e f =
      let g : list_joins d (drop i xs) (drop i ys) ≡ [] = ap (λ zs. list_joins d zs (drop i ys)) (drop_all i xs e) in
      ap types_of (sym (append-nil joined) ∙ ap (λ zs. joined ++ zs) (sym g) ∙ f) ∙ types_of-list_joins d xs ys
