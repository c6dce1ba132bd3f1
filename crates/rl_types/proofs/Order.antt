-- What is below what is an order, with joins.
use Rattle.std.proofs.Common.{◌≡◌, ℕ, Bool, true, false, ◌&&◌, ◌||◌, List, refl, sym, ap, ◌∙◌, subst, inl, inr, ◌⊎◌, ⊎_elim}
use Rattle.std.specs.Str.{bytes_eq}
use Rattle.std.proofs.lemmas.Slice.Eq.{bytes_eq-Decides}
use Rattle.rl_types.specs.PlainType.{PlainType, PlainTypes}
use Rattle.rl_types.specs.PlainType as t
use Rattle.rl_types.specs.Declarations.{Declarations, is_sort}
use Rattle.rl_types.specs.Types.{tree_name, subtype, subtypes}

pub same_name : (m : List ℕ) → bytes_eq m m ≡ true
same_name m = (bytes_eq-Decides m m).1 refl

pub name_is : (m n : List ℕ) → bytes_eq m n ≡ true → m ≡ n
name_is m n = (bytes_eq-Decides m n).0

pub both : (a b : Bool) → (a && b) ≡ true → (a ≡ true) × (b ≡ true)
both true b e = (refl, e)
both false b e = (cc)

pub joined : (a b : Bool) → a ≡ true → b ≡ true → (a && b) ≡ true
joined a b e f = rw e f

pub either : (a b : Bool) → (a || b) ≡ true → (a ≡ true) ⊎ (b ≡ true)
either true b e = inl refl
either false b e = inr e

pub left_or : (a b : Bool) → a ≡ true → (a || b) ≡ true
left_or a b e = rw e refl

pub right_or : (a b : Bool) → b ≡ true → (a || b) ≡ true
right_or true b e = refl
right_or false b e = e

pub below_value : (d : Declarations) (T : PlainType) → subtype d T t.value ≡ true
unfolding subtype
below_value d t.bool = refl
below_value d t.int = refl
below_value d t.str = refl
below_value d t.loc = refl
below_value d t.void = refl
below_value d t.value = refl
below_value d (t.list T) = refl
below_value d (t.set T) = refl
below_value d (t.mapping K V) = refl
below_value d (t.tuple Ts) = refl
below_value d (t.named n) = refl

pub above_void : (d : Declarations) (T : PlainType) → subtype d t.void T ≡ true
unfolding subtype
above_void d t.bool = refl
above_void d t.int = refl
above_void d t.str = refl
above_void d t.loc = refl
above_void d t.void = refl
above_void d t.value = refl
above_void d (t.list T) = refl
above_void d (t.set T) = refl
above_void d (t.mapping K V) = refl
above_void d (t.tuple Ts) = refl
above_void d (t.named n) = refl

mutual
  unfolding subtype subtypes

  pub subtype-refl : (d : Declarations) (T : PlainType) → subtype d T T ≡ true
  subtype-refl d t.bool = refl
  subtype-refl d t.int = refl
  subtype-refl d t.str = refl
  subtype-refl d t.loc = refl
  subtype-refl d t.void = refl
  subtype-refl d t.value = refl
  subtype-refl d (t.list T) = subtype-refl d T
  subtype-refl d (t.set T) = subtype-refl d T
  subtype-refl d (t.mapping K V) = joined _ _ (subtype-refl d K) (subtype-refl d V)
  subtype-refl d (t.tuple Ts) = subtypes-refl d Ts
  subtype-refl d (t.named n) = left_or _ _ (same_name n)

  subtypes-refl : (d : Declarations) (Ts : PlainTypes) → subtypes d Ts Ts ≡ true
  subtypes-refl d t.nil = refl
  subtypes-refl d (t.cons T Ts) = joined _ _ (subtype-refl d T) (subtypes-refl d Ts)

names_trans : (d : Declarations) (l m n : List ℕ) → (bytes_eq l m || (is_sort d l && bytes_eq m tree_name)) ≡ true → (bytes_eq m n || (is_sort d m && bytes_eq n tree_name)) ≡ true → (bytes_eq l n || (is_sort d l && bytes_eq n tree_name)) ≡ true
names_trans d l m n p q = ⊎_elim
    (λ e. let P : List ℕ → Type 0 = λ k. (bytes_eq k n || (is_sort d k && bytes_eq n tree_name)) ≡ true in subst P (sym (name_is l m e)) q)
    (λ e. let b = both (is_sort d l) (bytes_eq m tree_name) e in ⊎_elim
    (λ f. right_or _ _ (joined _ _ b.0 (ap (λ k. bytes_eq k tree_name) (sym (name_is m n f)) ∙ b.1)))
    (λ f. right_or _ _ (joined _ _ b.0 (both (is_sort d m) (bytes_eq n tree_name) f).1))
    (either (bytes_eq m n) (is_sort d m && bytes_eq n tree_name) q))
    (either (bytes_eq l m) (is_sort d l && bytes_eq m tree_name) p)

mutual
  unfolding subtype subtypes

  pub subtype-trans : (d : Declarations) (T U V : PlainType) → subtype d T U ≡ true → subtype d U V ≡ true → subtype d T V ≡ true
  subtype-trans d t.void U V p q = above_void d V
  subtype-trans d t.bool t.bool V p q = q
  subtype-trans d t.int t.int V p q = q
  subtype-trans d t.str t.str V p q = q
  subtype-trans d t.loc t.loc V p q = q
  subtype-trans d t.value t.value V p q = q
  subtype-trans d T t.value t.value p q = below_value d T
  subtype-trans d (t.list T) (t.list U) t.value p q = refl
  subtype-trans d (t.list T) (t.list U) (t.list V) p q = subtype-trans d T U V p q
  subtype-trans d (t.set T) (t.set U) t.value p q = refl
  subtype-trans d (t.set T) (t.set U) (t.set V) p q = subtype-trans d T U V p q
  subtype-trans d (t.mapping K A) (t.mapping L B) t.value p q = refl
  subtype-trans d (t.mapping K A) (t.mapping L B) (t.mapping M C) p q =
      let a = both (subtype d K L) (subtype d A B) p in
      let b = both (subtype d L M) (subtype d B C) q in
      joined _ _ (subtype-trans d K L M a.0 b.0) (subtype-trans d A B C a.1 b.1)
  subtype-trans d (t.tuple Ts) (t.tuple Us) t.value p q = refl
  subtype-trans d (t.tuple Ts) (t.tuple Us) (t.tuple Vs) p q = subtypes-trans d Ts Us Vs p q
  subtype-trans d (t.named l) (t.named m) t.value p q = refl
  subtype-trans d (t.named l) (t.named m) (t.named n) p q = names_trans d l m n p q
  subtype-trans d T U V p q = (cc)

  subtypes-trans : (d : Declarations) (Ts Us Vs : PlainTypes) → subtypes d Ts Us ≡ true → subtypes d Us Vs ≡ true → subtypes d Ts Vs ≡ true
  subtypes-trans d t.nil t.nil Vs p q = q
  subtypes-trans d (t.cons T Ts) (t.cons U Us) (t.cons V Vs) p q =
      let a = both (subtype d T U) (subtypes d Ts Us) p in
      let b = both (subtype d U V) (subtypes d Us Vs) q in
      joined _ _ (subtype-trans d T U V a.0 b.0) (subtypes-trans d Ts Us Vs a.1 b.1)
  subtypes-trans d Ts Us Vs p q = (cc)
