-- The join of two types is the least type above both.
use Rattle.std.proofs.Common.{◌≡◌, ℕ, true, false, ◌&&◌, ◌||◌, ◌==◌, if◌then◌else◌, List, refl, sym, ap, ◌∙◌, ⊎_elim, ◌+◌, eqb-true, eq-eqb, arith}
use Rattle.std.specs.Str.{bytes_eq}
use Rattle.rl_types.specs.PlainType.{PlainType, PlainTypes}
use Rattle.rl_types.specs.PlainType as t
use Rattle.rl_types.specs.Declarations.{Declarations, is_sort}
use Rattle.rl_types.specs.Types.{tree_name, subtype, subtypes, type_count, is_tree, join_names, join, joins}
use Rattle.rl_types.proofs.Order.{same_name, name_is, both, joined, either, left_or, right_or, below_value, above_void, subtype-refl}

tree_below : (d : Declarations) (m : List ℕ) → is_tree d m ≡ true → (bytes_eq m tree_name || (is_sort d m && bytes_eq tree_name tree_name)) ≡ true
tree_below d m e = ⊎_elim (λ s. right_or _ _ (joined _ _ s (same_name tree_name))) (λ n. left_or _ _ n) (either (is_sort d m) (bytes_eq m tree_name) e)

names_left : (d : Declarations) (m n : List ℕ) → subtype d (t.named m) (join_names d m n) ≡ true
unfolding subtype
names_left d m n =
    elim (bytes_eq m n) as (λ b. subtype d (t.named m) (if b then t.named m else if is_tree d m && is_tree d n then t.named tree_name else t.value) ≡ true) [
      | true ↦ left_or _ _ (same_name m)
      | false ↦ elim (is_tree d m && is_tree d n) as (λ b. (is_tree d m && is_tree d n) ≡ b → subtype d (t.named m) (if b then t.named tree_name else t.value) ≡ true) [
        | true ↦ λ e. tree_below d m (both (is_tree d m) (is_tree d n) e).0
        | false ↦ λ e. refl
      ] refl
    ]

names_right : (d : Declarations) (m n : List ℕ) → subtype d (t.named n) (join_names d m n) ≡ true
unfolding subtype
names_right d m n =
    elim (bytes_eq m n) as (λ b. bytes_eq m n ≡ b → subtype d (t.named n) (if b then t.named m else if is_tree d m && is_tree d n then t.named tree_name else t.value) ≡ true) [
      | true ↦ λ e. left_or _ _ (ap (λ k. bytes_eq k m) (sym (name_is m n e)) ∙ same_name m)
      | false ↦ λ _. elim (is_tree d m && is_tree d n) as (λ b. (is_tree d m && is_tree d n) ≡ b → subtype d (t.named n) (if b then t.named tree_name else t.value) ≡ true) [
        | true ↦ λ e. tree_below d n (both (is_tree d m) (is_tree d n) e).1
        | false ↦ λ e. refl
      ] refl
    ] refl

mutual
  unfolding subtype subtypes join joins

  pub join-left : (d : Declarations) (T U : PlainType) → subtype d T (join d T U) ≡ true
  join-left d t.void U = above_void d U
  join-left d T t.void = subtype-refl d T
  join-left d t.bool t.bool = refl
  join-left d t.int t.int = refl
  join-left d t.str t.str = refl
  join-left d t.loc t.loc = refl
  join-left d (t.list T) (t.list U) = join-left d T U
  join-left d (t.set T) (t.set U) = join-left d T U
  join-left d (t.mapping K V) (t.mapping L W) = joined _ _ (join-left d K L) (join-left d V W)
  join-left d (t.tuple Ts) (t.tuple Us) =
      elim (type_count Ts == type_count Us) as (λ b. (type_count Ts == type_count Us) ≡ b → subtype d (t.tuple Ts) (if b then t.tuple (joins d Ts Us) else t.value) ≡ true) [
        | true ↦ λ e. joins-left d Ts Us (eqb-true _ _ e)
        | false ↦ λ e. refl
      ] refl
  join-left d (t.named m) (t.named n) = names_left d m n
  join-left d T U = below_value d T

  joins-left : (d : Declarations) (Ts Us : PlainTypes) → type_count Ts ≡ type_count Us → subtypes d Ts (joins d Ts Us) ≡ true
  joins-left d t.nil Us e = refl
  joins-left d (t.cons T Ts) t.nil e = absurd (omega arith)
  joins-left d (t.cons T Ts) (t.cons U Us) e = joined _ _ (join-left d T U) (joins-left d Ts Us (omega arith))

mutual
  unfolding subtype subtypes join joins

  pub join-right : (d : Declarations) (T U : PlainType) → subtype d U (join d T U) ≡ true
  join-right d t.void U = subtype-refl d U
  join-right d T t.void = above_void d T
  join-right d t.bool t.bool = refl
  join-right d t.int t.int = refl
  join-right d t.str t.str = refl
  join-right d t.loc t.loc = refl
  join-right d (t.list T) (t.list U) = join-right d T U
  join-right d (t.set T) (t.set U) = join-right d T U
  join-right d (t.mapping K V) (t.mapping L W) = joined _ _ (join-right d K L) (join-right d V W)
  join-right d (t.tuple Ts) (t.tuple Us) =
      elim (type_count Ts == type_count Us) as (λ b. (type_count Ts == type_count Us) ≡ b → subtype d (t.tuple Us) (if b then t.tuple (joins d Ts Us) else t.value) ≡ true) [
        | true ↦ λ e. joins-right d Ts Us (eqb-true _ _ e)
        | false ↦ λ e. refl
      ] refl
  join-right d (t.named m) (t.named n) = names_right d m n
  join-right d T U = below_value d U

  joins-right : (d : Declarations) (Ts Us : PlainTypes) → type_count Ts ≡ type_count Us → subtypes d Us (joins d Ts Us) ≡ true
  joins-right d t.nil t.nil e = refl
  joins-right d t.nil (t.cons U Us) e = absurd (omega arith)
  joins-right d (t.cons T Ts) t.nil e = absurd (omega arith)
  joins-right d (t.cons T Ts) (t.cons U Us) e = joined _ _ (join-right d T U) (joins-right d Ts Us (omega arith))

-- where both names are below a third
names_both : (d : Declarations) (m n k : List ℕ) → (bytes_eq m k || (is_sort d m && bytes_eq k tree_name)) ≡ true → (bytes_eq n k || (is_sort d n && bytes_eq k tree_name)) ≡ true → bytes_eq m n ≡ false → (is_tree d m ≡ true) × (is_tree d n ≡ true) × (bytes_eq tree_name k ≡ true)
names_both d m n k p q f =
    let turned : bytes_eq k tree_name ≡ true → bytes_eq tree_name k ≡ true = λ e. ap (λ j. bytes_eq tree_name j) (name_is k tree_name e) ∙ same_name tree_name in
    ⊎_elim
    (λ e. ⊎_elim
    (λ g. let h : bytes_eq m n ≡ true = ap (λ j. bytes_eq j n) (name_is m k e ∙ sym (name_is n k g)) ∙ same_name n in (cc))
    (λ g. let b = both (is_sort d n) (bytes_eq k tree_name) g in
    (right_or _ _ (ap (λ j. bytes_eq j tree_name) (name_is m k e) ∙ b.1), left_or _ _ b.0, turned b.1))
    (either (bytes_eq n k) (is_sort d n && bytes_eq k tree_name) q))
    (λ e. let b = both (is_sort d m) (bytes_eq k tree_name) e in ⊎_elim
    (λ g. (left_or _ _ b.0, right_or _ _ (ap (λ j. bytes_eq j tree_name) (name_is n k g) ∙ b.1), turned b.1))
    (λ g. (left_or _ _ b.0, left_or _ _ (both (is_sort d n) (bytes_eq k tree_name) g).0, turned b.1))
    (either (bytes_eq n k) (is_sort d n && bytes_eq k tree_name) q))
    (either (bytes_eq m k) (is_sort d m && bytes_eq k tree_name) p)

names_least : (d : Declarations) (m n k : List ℕ) → (bytes_eq m k || (is_sort d m && bytes_eq k tree_name)) ≡ true → (bytes_eq n k || (is_sort d n && bytes_eq k tree_name)) ≡ true → subtype d (join_names d m n) (t.named k) ≡ true
unfolding subtype
names_least d m n k p q =
    elim (bytes_eq m n) as (λ b. bytes_eq m n ≡ b → subtype d (if b then t.named m else if is_tree d m && is_tree d n then t.named tree_name else t.value) (t.named k) ≡ true) [
      | true ↦ λ e. p
      | false ↦ λ f. let h = names_both d m n k p q f in
          let i : (is_tree d m && is_tree d n) ≡ true = joined _ _ h.0 h.1 in
          elim (is_tree d m && is_tree d n) as (λ b. (is_tree d m && is_tree d n) ≡ b → subtype d (if b then t.named tree_name else t.value) (t.named k) ≡ true) [
            | true ↦ λ e. left_or _ _ h.2
            | false ↦ λ e. (cc)
          ] refl
    ] refl

same_count : (d : Declarations) (Ts Us : PlainTypes) → subtypes d Ts Us ≡ true → type_count Ts ≡ type_count Us
unfolding subtypes
same_count d t.nil t.nil p = refl
same_count d t.nil (t.cons U Us) p = (cc)
same_count d (t.cons T Ts) t.nil p = (cc)
same_count d (t.cons T Ts) (t.cons U Us) p = ap (λ n. n + 1) (same_count d Ts Us (both (subtype d T U) (subtypes d Ts Us) p).1)

mutual
  unfolding subtype subtypes join joins

  pub join-least : (d : Declarations) (T U V : PlainType) → subtype d T V ≡ true → subtype d U V ≡ true → subtype d (join d T U) V ≡ true
  join-least d t.void U V p q = q
  join-least d T t.void V p q = p
  join-least d t.bool t.bool V p q = p
  join-least d t.int t.int V p q = p
  join-least d t.str t.str V p q = p
  join-least d t.loc t.loc V p q = p
  join-least d (t.list T) (t.list U) (t.list V) p q = join-least d T U V p q
  join-least d (t.set T) (t.set U) (t.set V) p q = join-least d T U V p q
  join-least d (t.mapping K A) (t.mapping L B) (t.mapping M C) p q =
      let a = both (subtype d K M) (subtype d A C) p in
      let b = both (subtype d L M) (subtype d B C) q in
      joined _ _ (join-least d K L M a.0 b.0) (join-least d A B C a.1 b.1)
  join-least d (t.tuple Ts) (t.tuple Us) (t.tuple Vs) p q =
      let e : type_count Ts ≡ type_count Us = same_count d Ts Vs p ∙ sym (same_count d Us Vs q) in
      ap (λ b. subtype d (if b then t.tuple (joins d Ts Us) else t.value) (t.tuple Vs)) (eq-eqb _ _ e) ∙ joins-least d Ts Us Vs p q
  join-least d (t.named m) (t.named n) (t.named k) p q = names_least d m n k p q
  join-least d T U t.value p q = below_value d (join d T U)
  join-least d T U V p q = (cc)

  joins-least : (d : Declarations) (Ts Us Vs : PlainTypes) → subtypes d Ts Vs ≡ true → subtypes d Us Vs ≡ true → subtypes d (joins d Ts Us) Vs ≡ true
  joins-least d t.nil Us Vs p q = p
  joins-least d (t.cons T Ts) (t.cons U Us) (t.cons V Vs) p q =
      let a = both (subtype d T V) (subtypes d Ts Vs) p in
      let b = both (subtype d U V) (subtypes d Us Vs) q in
      joined _ _ (join-least d T U V a.0 b.0) (joins-least d Ts Us Vs a.1 b.1)
  joins-least d Ts Us Vs p q = (cc)
