-- What has a type has every type above it.
use Rattle.std.proofs.Common.{◌≡◌, ℕ, Bool, true, false, cond, ◌&&◌, ◌||◌, List, [], ◌∷◌, refl, sym, ap, ◌∙◌, subst, inl, inr, ◌⊎◌, ⊎_elim}
use Rattle.std.specs.Str.{bytes_eq}
use Rattle.std.specs.Prelude.{ℤ, find, Option, Some, None}
use Rattle.std.specs.List.{All}
use Rattle.std.proofs.lemmas.List.Elements.{All-head, All-tail}
use Rattle.rl_value.specs.Plain.{Plain, Plains, Pairs, Shape}
use Rattle.rl_value.specs.declared.shape.Scheme.{Scheme}
use Rattle.rl_value.specs.Plain as v
use Rattle.rl_types.specs.PlainType.{PlainType, PlainTypes}
use Rattle.rl_types.specs.PlainType as t
use Rattle.rl_types.specs.Declarations.{Declarations, Constructor, is_sort, is_constructor, constructor}
use Rattle.rl_types.specs.Types.{tree_name, subtype, subtypes, value_count, is_of, has, all_have, each_has, pairs_have, IsApart}
use Rattle.rl_types.proofs.Order.{name_is, both, joined, either, right_or}

-- what is found holds what all hold
found : (P : Constructor → Type 0) (p : Constructor → Bool) (cs : List Constructor) (c : Constructor) → All P cs → find p cs ≡ Some c → P c
found P p [] c a e = (cc)
found P p (x ∷ cs) c a e =
    elim (p x) as (λ b. cond b (Some x) (find p cs) ≡ Some c → P c) [
      | true ↦ λ f. let g : x ≡ c = (cc) in subst P g (All-head P x cs a)
      | false ↦ λ f. found P p cs c (All-tail P x cs a) f
    ] e

node_above : (d : Declarations) (a : IsApart d) (o : Option Constructor) (m n : List ℕ) → ((c : Constructor) → o ≡ Some c → is_sort d c.owner ≡ false) → is_of o m ≡ true → (bytes_eq m n || (is_sort d m && bytes_eq n tree_name)) ≡ true → is_of o n ≡ true
node_above d a None m n f p q = p
node_above d a (Some c) m n f p q = ⊎_elim
    (λ e. ap (bytes_eq c.owner) (sym (name_is m n e)) ∙ p)
    (λ e. let b = both (is_sort d m) (bytes_eq n tree_name) e in
    let h : is_sort d m ≡ false = ap (is_sort d) (sym (name_is c.owner m p)) ∙ f c refl in (cc))
    (either (bytes_eq m n) (is_sort d m && bytes_eq n tree_name) q)

tree_above : (d : Declarations) (s m n : List ℕ) → (bytes_eq s m || bytes_eq m tree_name) ≡ true → (bytes_eq m n || (is_sort d m && bytes_eq n tree_name)) ≡ true → (bytes_eq s n || bytes_eq n tree_name) ≡ true
tree_above d s m n p q = ⊎_elim
    (λ e. let P : List ℕ → Type 0 = λ k. (bytes_eq s k || bytes_eq k tree_name) ≡ true in subst P (name_is m n e) p)
    (λ e. right_or _ _ (both (is_sort d m) (bytes_eq n tree_name) e).1)
    (either (bytes_eq m n) (is_sort d m && bytes_eq n tree_name) q)

bool_above : (d : Declarations) (a : IsApart d) (b : Bool) (T U : PlainType) → has d (v.bool b) T ≡ true → subtype d T U ≡ true → has d (v.bool b) U ≡ true
unfolding has subtype
bool_above d a b t.bool t.bool p q = refl
bool_above d a b T t.value p q = refl
bool_above d a b T U p q = (cc)

int_above : (d : Declarations) (a : IsApart d) (n : ℤ) (T U : PlainType) → has d (v.int n) T ≡ true → subtype d T U ≡ true → has d (v.int n) U ≡ true
unfolding has subtype
int_above d a n t.int t.int p q = refl
int_above d a n T t.value p q = refl
int_above d a n T U p q = (cc)

text_above : (d : Declarations) (a : IsApart d) (bytes : List ℕ) (T U : PlainType) → has d (v.text bytes) T ≡ true → subtype d T U ≡ true → has d (v.text bytes) U ≡ true
unfolding has subtype
text_above d a bytes t.str t.str p q = refl
text_above d a bytes T t.value p q = refl
text_above d a bytes T U p q = (cc)

location_above : (d : Declarations) (a : IsApart d) (scheme : Scheme) (path : List ℕ) (span : Option (ℕ × ℕ)) (T U : PlainType) → has d (v.location scheme path span) T ≡ true → subtype d T U ≡ true → has d (v.location scheme path span) U ≡ true
unfolding has subtype
location_above d a scheme path span t.loc t.loc p q = refl
location_above d a scheme path span T t.value p q = refl
location_above d a scheme path span T U p q = (cc)

leaf_above : (d : Declarations) (a : IsApart d) (bytes : List ℕ) (T U : PlainType) → has d (v.leaf bytes) T ≡ true → subtype d T U ≡ true → has d (v.leaf bytes) U ≡ true
unfolding has subtype
leaf_above d a bytes t.value t.value p q = refl
leaf_above d a bytes T t.value p q = refl
leaf_above d a bytes T U p q = (cc)

constructor_above : (d : Declarations) (a : IsApart d) (name : List ℕ) (us : Plains) (T U : PlainType) → has d (v.node name us) T ≡ true → subtype d T U ≡ true → has d (v.node name us) U ≡ true
unfolding has subtype
constructor_above d a name us (t.named m) (t.named n) p q = node_above d a (constructor d name (value_count us)) m n (λ c. found (λ c. is_sort d c.owner ≡ false) (is_constructor name (value_count us)) d.constructors c a) p q
constructor_above d a name us T t.value p q = refl
constructor_above d a name us T U p q = (cc)

branch_above : (d : Declarations) (a : IsApart d) (shape : Shape) (us : Plains) (T U : PlainType) → has d (v.tree shape us) T ≡ true → subtype d T U ≡ true → has d (v.tree shape us) U ≡ true
unfolding has subtype
branch_above d a shape us (t.named m) (t.named n) p q = tree_above d shape.sort m n p q
branch_above d a shape us T t.value p q = refl
branch_above d a shape us T U p q = (cc)

list_of : (d : Declarations) (us : Plains) (T U : PlainType) → has d (v.list us) T ≡ true → subtype d T U ≡ true → (U ≡ t.value) ⊎ ((A : PlainType) × (B : PlainType) × (U ≡ t.list B) × (all_have d us A ≡ true) × (subtype d A B ≡ true))
unfolding has subtype
list_of d us (t.list A) (t.list B) p q = inr (A, B, refl, p, q)
list_of d us T t.value p q = inl refl
list_of d us T U p q = (cc)

set_of : (d : Declarations) (us : Plains) (T U : PlainType) → has d (v.set us) T ≡ true → subtype d T U ≡ true → (U ≡ t.value) ⊎ ((A : PlainType) × (B : PlainType) × (U ≡ t.set B) × (all_have d us A ≡ true) × (subtype d A B ≡ true))
unfolding has subtype
set_of d us (t.set A) (t.set B) p q = inr (A, B, refl, p, q)
set_of d us T t.value p q = inl refl
set_of d us T U p q = (cc)

tuple_of : (d : Declarations) (us : Plains) (T U : PlainType) → has d (v.tuple us) T ≡ true → subtype d T U ≡ true → (U ≡ t.value) ⊎ ((A : PlainTypes) × (B : PlainTypes) × (U ≡ t.tuple B) × (each_has d us A ≡ true) × (subtypes d A B ≡ true))
unfolding has subtype
tuple_of d us (t.tuple A) (t.tuple B) p q = inr (A, B, refl, p, q)
tuple_of d us T t.value p q = inl refl
tuple_of d us T U p q = (cc)

mapping_of : (d : Declarations) (ps : Pairs) (T U : PlainType) → has d (v.mapping ps) T ≡ true → subtype d T U ≡ true
    → (U ≡ t.value) ⊎ ((K : PlainType) × (A : PlainType) × (L : PlainType) × (B : PlainType) × (U ≡ t.mapping L B) × (pairs_have d ps K A ≡ true) × ((subtype d K L && subtype d A B) ≡ true))
unfolding has subtype
mapping_of d ps (t.mapping K A) (t.mapping L B) p q = inr (K, A, L, B, refl, p, q)
mapping_of d ps T t.value p q = inl refl
mapping_of d ps T U p q = (cc)

mutual
  unfolding has all_have each_has pairs_have subtypes

  pub has-above : (d : Declarations) (a : IsApart d) (u : Plain) (T U : PlainType) → has d u T ≡ true → subtype d T U ≡ true → has d u U ≡ true
  has-above d a (v.bool b) T U p q = bool_above d a b T U p q
  has-above d a (v.int n) T U p q = int_above d a n T U p q
  has-above d a (v.text bytes) T U p q = text_above d a bytes T U p q
  has-above d a (v.location scheme path span) T U p q = location_above d a scheme path span T U p q
  has-above d a (v.leaf bytes) T U p q = leaf_above d a bytes T U p q
  has-above d a (v.node name us) T U p q = constructor_above d a name us T U p q
  has-above d a (v.tree shape us) T U p q = branch_above d a shape us T U p q
  has-above d a (v.list us) T U p q = ⊎_elim
      (λ e. ap (has d (v.list us)) e)
      (λ r. ap (has d (v.list us)) r.2 ∙ all-above d a us r.0 r.1 r.3 r.4)
      (list_of d us T U p q)
  has-above d a (v.set us) T U p q = ⊎_elim
      (λ e. ap (has d (v.set us)) e)
      (λ r. ap (has d (v.set us)) r.2 ∙ all-above d a us r.0 r.1 r.3 r.4)
      (set_of d us T U p q)
  has-above d a (v.tuple us) T U p q = ⊎_elim
      (λ e. ap (has d (v.tuple us)) e)
      (λ r. ap (has d (v.tuple us)) r.2 ∙ each-above d a us r.0 r.1 r.3 r.4)
      (tuple_of d us T U p q)
  has-above d a (v.mapping ps) T U p q = ⊎_elim
      (λ e. ap (has d (v.mapping ps)) e)
      (λ r. let b = both (subtype d r.0 r.2) (subtype d r.1 r.3) r.6 in ap (has d (v.mapping ps)) r.4 ∙ pairs-above d a ps r.0 r.1 r.2 r.3 r.5 b.0 b.1)
      (mapping_of d ps T U p q)

  all-above : (d : Declarations) (a : IsApart d) (us : Plains) (T U : PlainType) → all_have d us T ≡ true → subtype d T U ≡ true → all_have d us U ≡ true
  all-above d a v.nil T U p q = refl
  all-above d a (v.cons u us) T U p q =
      let b = both (has d u T) (all_have d us T) p in joined _ _ (has-above d a u T U b.0 q) (all-above d a us T U b.1 q)

  each-above : (d : Declarations) (a : IsApart d) (us : Plains) (Ts Us : PlainTypes) → each_has d us Ts ≡ true → subtypes d Ts Us ≡ true → each_has d us Us ≡ true
  each-above d a v.nil t.nil t.nil p q = refl
  each-above d a (v.cons u us) (t.cons T Ts) (t.cons U Us) p q =
      let b = both (has d u T) (each_has d us Ts) p in
      let e = both (subtype d T U) (subtypes d Ts Us) q in
      joined _ _ (has-above d a u T U b.0 e.0) (each-above d a us Ts Us b.1 e.1)
  each-above d a us Ts Us p q = (cc)

  pairs-above : (d : Declarations) (a : IsApart d) (ps : Pairs) (K A L B : PlainType) → pairs_have d ps K A ≡ true → subtype d K L ≡ true → subtype d A B ≡ true → pairs_have d ps L B ≡ true
  pairs-above d a v.no_pairs K A L B p q r = refl
  pairs-above d a (v.pair k u ps) K A L B p q r =
      let x = both (has d k K && has d u A) (pairs_have d ps K A) p in
      let y = both (has d k K) (has d u A) x.0 in
      joined _ _ (joined _ _ (has-above d a k K L y.0 q) (has-above d a u A B y.1 r)) (pairs-above d a ps K A L B x.1 q r)
