-- Trees of one shape, with their code and their order.
use Rattle.std.specs.Prelude.{◌≡◌, ℕ, ℤ, List, refl}
use Rattle.std.proofs.Common.{ap, sym, ◌∙◌, subst}
use base.Stored.{Gv, gnil, gnum, gcons, Coded, coded_ℕ, coded_ℤ, coded_list}
use Rattle.std.specs.declared.cmp.Ordering.{Ordering}
use Rattle.std.specs.declared.cmp.Ordering.TheVariants.{Less, Equal, Greater}
use Rattle.std.specs.Ordering.{nat_cmp, int_cmp, ordering_then, ordering_reverse}
use Rattle.std.specs.Cmp.{IsTotalOrder}
use Rattle.std.specs.Cmp.Lexicographic.{slice_cmp}
use Rattle.std.proofs.lemmas.Cmp.{nat_cmp_total, int_cmp_total, nat_list_cmp_total, tied_itself, lists_total}
use Rattle.std.specs.FinMap.{slice_cmp-IsAntisymmetric}
use Rattle.std.proofs.lemmas.Map.Lookups.{exact_unsigned, exact_signed, exact_bytes}

mutual
  pub data Rose : Type 0 where
    rose : ℕ → ℤ → List (List ℕ) → Roses → Rose

  pub data Roses : Type 0 where
    no_roses : Roses
    more : Rose → Roses → Roses

-- ---- the code
abbrev mutual
  pub rose_code : Rose → Gv
  rose_code (rose k z t rs) = gcons (gnum k) (gcons (coded_ℤ.code z) (gcons ((coded_list (coded_list coded_ℕ)).code t) (roses_code rs)))

  pub roses_code : Roses → Gv
  roses_code no_roses = gnil
  roses_code (more r rs) = gcons (rose_code r) (roses_code rs)

mutual
  pub rose_inj : (a b : Rose) → rose_code a ≡ rose_code b → a ≡ b
  rose_inj (rose k z t rs) (rose l y u ss) p =
      let ek : k ≡ l = cc in
      let ez : z ≡ y = coded_ℤ.inj z y (cc) in
      let et : t ≡ u = (coded_list (coded_list coded_ℕ)).inj t u (cc) in
      let er : rs ≡ ss = roses_inj rs ss (cc) in
      cc

  roses_inj : (a b : Roses) → roses_code a ≡ roses_code b → a ≡ b
  roses_inj no_roses no_roses p = refl
  roses_inj no_roses (more r rs) p = cc
  roses_inj (more r rs) no_roses p = cc
  roses_inj (more r rs) (more s ss) p =
      let er : r ≡ s = rose_inj r s (cc) in
      let es : rs ≡ ss = roses_inj rs ss (cc) in
      cc

abbrev pub coded_rose : Coded Rose
coded_rose = record { code = rose_code; inj = rose_inj }

-- ---- the order
abbrev pub texts_cmp : List (List ℕ) → List (List ℕ) → Ordering
texts_cmp = slice_cmp (slice_cmp nat_cmp)

texts_cmp_total : IsTotalOrder texts_cmp
texts_cmp_total = lists_total nat_list_cmp_total

exact_texts : (x y : List (List ℕ)) → texts_cmp x y ≡ Equal → x ≡ y
exact_texts = slice_cmp-IsAntisymmetric exact_bytes

abbrev mutual
  pub rose_cmp : Rose → Rose → Ordering
  rose_cmp (rose k z t rs) (rose l y u ss) =
      ordering_then (nat_cmp k l) (ordering_then (int_cmp z y) (ordering_then (texts_cmp t u) (roses_cmp rs ss)))

  pub roses_cmp : Roses → Roses → Ordering
  roses_cmp no_roses no_roses = Equal
  roses_cmp no_roses (more s ss) = Less
  roses_cmp (more r rs) no_roses = Greater
  roses_cmp (more r rs) (more s ss) = ordering_then (rose_cmp r s) (roses_cmp rs ss)

reverse-then : (a b : Ordering) → ordering_reverse (ordering_then a b) ≡ ordering_then (ordering_reverse a) (ordering_reverse b)
reverse-then Less b = refl
reverse-then Equal b = refl
reverse-then Greater b = refl

then-first : (a b : Ordering) → ordering_then a b ≡ Equal → a ≡ Equal
then-first Less b p = p
then-first Equal b p = refl
then-first Greater b p = p

then-second : (a b : Ordering) → ordering_then a b ≡ Equal → b ≡ Equal
then-second Less b p = cc
then-second Equal b p = p
then-second Greater b p = cc

reversed_then : (a b c d : Ordering) → a ≡ ordering_reverse c → b ≡ ordering_reverse d → ordering_then a b ≡ ordering_reverse (ordering_then c d)
reversed_then a b c d p q = (λ i. ordering_then (p i) (q i)) ∙ sym (reverse-then c d)

mutual
  antisymm : (a b : Rose) → rose_cmp a b ≡ ordering_reverse (rose_cmp b a)
  antisymm (rose k z t rs) (rose l y u ss) =
      reversed_then _ _ _ _ (nat_cmp_total.antisymm k l)
      (reversed_then _ _ _ _ (int_cmp_total.antisymm z y) (reversed_then _ _ _ _ (texts_cmp_total.antisymm t u) (antisymm_all rs ss)))

  antisymm_all : (a b : Roses) → roses_cmp a b ≡ ordering_reverse (roses_cmp b a)
  antisymm_all no_roses no_roses = refl
  antisymm_all no_roses (more s ss) = refl
  antisymm_all (more r rs) no_roses = refl
  antisymm_all (more r rs) (more s ss) = reversed_then _ _ _ _ (antisymm r s) (antisymm_all rs ss)

mutual
  pub rose_exact : (a b : Rose) → rose_cmp a b ≡ Equal → a ≡ b
  rose_exact (rose k z t rs) (rose l y u ss) p =
      let p1 = then-second (nat_cmp k l) _ p in
      let p2 = then-second (int_cmp z y) _ p1 in
      let p3 = then-second (texts_cmp t u) _ p2 in
      let ek : k ≡ l = exact_unsigned k l (then-first _ _ p) in
      let ez : z ≡ y = exact_signed z y (then-first _ _ p1) in
      let et : t ≡ u = exact_texts t u (then-first _ _ p2) in
      let er : rs ≡ ss = roses_exact rs ss p3 in
      cc

  roses_exact : (a b : Roses) → roses_cmp a b ≡ Equal → a ≡ b
  roses_exact no_roses no_roses p = refl
  roses_exact no_roses (more s ss) p = cc
  roses_exact (more r rs) no_roses p = cc
  roses_exact (more r rs) (more s ss) p =
      let er : r ≡ s = rose_exact r s (then-first _ _ p) in
      let es : rs ≡ ss = roses_exact rs ss (then-second (rose_cmp r s) _ p) in
      cc

mutual
  pub rose_tied : (a : Rose) → rose_cmp a a ≡ Equal
  rose_tied (rose k z t rs) =
      let a = tied_itself nat_cmp_total k in
      let b = tied_itself int_cmp_total z in
      let c = tied_itself texts_cmp_total t in
      rw a (rw b (rw c (roses_tied rs)))

  roses_tied : (a : Roses) → roses_cmp a a ≡ Equal
  roses_tied no_roses = refl
  roses_tied (more r rs) = let a = rose_tied r in rw a (roses_tied rs)

-- two orders one after another pass "less" on, if each does and the first ties only what is the same
then_trans : {K : Type 0} (R : K → K → Ordering) → ((x y : K) → R x y ≡ Equal → x ≡ y) → (x y z : K)
    → (R x y ≡ Less → R y z ≡ Less → R x z ≡ Less) → (p q r : Ordering) → (p ≡ Less → q ≡ Less → r ≡ Less)
    → ordering_then (R x y) p ≡ Less → ordering_then (R y z) q ≡ Less → ordering_then (R x z) r ≡ Less
then_trans R exact x y z passes p q r later = by (R x y) refl (R y z) refl
  where
    by : (a : Ordering) → R x y ≡ a → (b : Ordering) → R y z ≡ b → ordering_then a p ≡ Less → ordering_then b q ≡ Less → ordering_then (R x z) r ≡ Less
    by Less ea Less eb h k = let e = passes ea eb in rw e refl
    by Less ea Equal eb h k = let e : R x z ≡ Less = subst (λ w. R x w ≡ Less) (exact y z eb) ea in rw e refl
    by Equal ea Less eb h k = let e : R x z ≡ Less = subst (λ w. R w z ≡ Less) (sym (exact x y ea)) eb in rw e refl
    by Equal ea Equal eb h k = let e : R x z ≡ Equal = subst (λ w. R w z ≡ Equal) (sym (exact x y ea)) eb in rw e (later h k)
    by Greater ea b eb h k = cc
    by Less ea Greater eb h k = cc
    by Equal ea Greater eb h k = cc

mutual
  trans : (a b c : Rose) → rose_cmp a b ≡ Less → rose_cmp b c ≡ Less → rose_cmp a c ≡ Less
  trans (rose k z t rs) (rose l y u ss) (rose m x v us) =
      then_trans nat_cmp exact_unsigned k l m (nat_cmp_total.trans k l m) _ _ _
      (then_trans int_cmp exact_signed z y x (int_cmp_total.trans z y x) _ _ _
      (then_trans texts_cmp exact_texts t u v (texts_cmp_total.trans t u v) _ _ _ (trans_all rs ss us)))

  trans_all : (a b c : Roses) → roses_cmp a b ≡ Less → roses_cmp b c ≡ Less → roses_cmp a c ≡ Less
  trans_all no_roses no_roses no_roses h k = h
  trans_all no_roses no_roses (more t ts) h k = k
  trans_all no_roses (more s ss) no_roses h k = cc
  trans_all no_roses (more s ss) (more t ts) h k = refl
  trans_all (more r rs) no_roses c h k = cc
  trans_all (more r rs) (more s ss) no_roses h k = cc
  trans_all (more r rs) (more s ss) (more t ts) h k =
      then_trans rose_cmp rose_exact r s t (trans r s t) _ _ _ (trans_all rs ss ts) h k

pub rose_cmp_total : IsTotalOrder rose_cmp
rose_cmp_total = record {
  antisymm = antisymm;
  trans = trans;
  congr = λ x y z e. ap (λ w. rose_cmp w z) (rose_exact x y e);
}
