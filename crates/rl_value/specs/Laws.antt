-- The laws of the order of values, and the code by which a proof tells values apart. Both are proved
-- of trees of one shape, to which values are taken.
use Rattle.std.specs.Prelude.{◌≡◌, ◌↔◌, IsTrue, Bool, true, false, ℕ, zero, suc, ℤ, pos, List, [], ◌∷◌, Option, Some, None, refl}
use Rattle.std.proofs.Common.{ap, sym, ◌∙◌, subst}
use Rattle.std.specs.Coded.{Coded, code_by}
use Rattle.std.specs.declared.cmp.Ordering.{Ordering}
use Rattle.std.specs.declared.cmp.Ordering.TheVariants.{Less, Equal, Greater}
use Rattle.std.specs.Ordering.{nat_cmp, int_cmp, bool_cmp, ordering_then, eq_by_cmp, is_eq}
use Rattle.std.specs.Option.{option_cmp}
use Rattle.std.specs.Cmp.{IsTotalOrder, IsEquivalence}
use Rattle.std.proofs.lemmas.Cmp.{on_total, eq_by_cmp_equiv}
use Rattle.rl_value.specs.declared.shape.Scheme.{Scheme}
use Rattle.rl_value.specs.declared.shape.Scheme.TheVariants.{Cwd, Unknown}
use Rattle.rl_value.specs.declared.shape.Role.{Role}
use Rattle.rl_value.specs.declared.shape.Role.TheVariants.{Syntax, Lexical, Layout, Keyword, Rep, Opt}
use Rattle.rl_value.specs.Plain.{Shape, Plain, bool, int, text, location, tuple, list, set, mapping, node, tree, leaf, Plains, nil, cons, Pairs, no_pairs, pair, plains_text}
use Rattle.rl_value.specs.Order.{scheme_rank, role_rank, bytes_cmp, span_cmp, shape_cmp, plain_cmp, plains_cmp, pairs_cmp}
use Rattle.rl_value.specs.Rose.{Rose, rose, Roses, no_roses, more, coded_rose, rose_cmp, roses_cmp, rose_exact, rose_tied, rose_cmp_total}

abbrev pub bit : Bool → ℤ
bit false = pos 0
bit true = pos 1

abbrev pub from_bit : ℤ → Bool
from_bit (pos (suc n)) = true
from_bit z = false

abbrev pub span_text : Option (ℕ × ℕ) → List ℕ
span_text None = []
span_text (Some p) = p.0 ∷ p.1 ∷ []

abbrev pub from_span_text : List ℕ → Option (ℕ × ℕ)
from_span_text (a ∷ b ∷ []) = Some (a, b)
from_span_text bytes = None

abbrev pub first : List (List ℕ) → List ℕ
first [] = []
first (t ∷ ts) = t

abbrev pub rest : List (List ℕ) → List (List ℕ)
rest [] = []
rest (t ∷ ts) = ts

abbrev pub number : List ℕ → ℕ
number [] = 0
number (n ∷ ns) = n

abbrev pub scheme_from : ℕ → Scheme
scheme_from zero = Cwd
scheme_from (suc n) = Unknown

abbrev pub role_from : ℕ → Role
role_from zero = Syntax
role_from (suc zero) = Lexical
role_from (suc (suc zero)) = Layout
role_from (suc (suc (suc zero))) = Keyword
role_from (suc (suc (suc (suc zero)))) = Rep
role_from (suc (suc (suc (suc (suc n))))) = Opt

abbrev mutual
  pub to_rose : Plain → Rose
  to_rose (bool b) = rose 0 (bit b) [] no_roses
  to_rose (int n) = rose 1 n [] no_roses
  to_rose (text bytes) = rose 2 (pos 0) (bytes ∷ []) no_roses
  to_rose (location scheme path span) = rose 3 (pos 0) ((scheme_rank scheme ∷ []) ∷ path ∷ span_text span ∷ []) no_roses
  to_rose (tuple ts) = rose 4 (pos 0) [] (to_roses ts)
  to_rose (list ts) = rose 5 (pos 0) [] (to_roses ts)
  to_rose (set ts) = rose 6 (pos 0) [] (to_roses ts)
  to_rose (mapping ps) = rose 7 (pos 0) [] (pair_roses ps)
  to_rose (node name ts) = rose 8 (pos 0) (name ∷ []) (to_roses ts)
  to_rose (tree p ts) = rose 9 (pos 0) (plains_text ts ∷ p.sort ∷ (role_rank p.role ∷ []) ∷ (p.rule ∷ []) ∷ p.label ∷ []) (to_roses ts)
  to_rose (leaf bytes) = rose 10 (pos 0) (bytes ∷ []) no_roses

  pub to_roses : Plains → Roses
  to_roses nil = no_roses
  to_roses (cons t ts) = more (to_rose t) (to_roses ts)

  pub pair_roses : Pairs → Roses
  pair_roses no_pairs = no_roses
  pair_roses (pair k v ps) = more (to_rose k) (more (to_rose v) (pair_roses ps))

abbrev pub paired : Plains → Pairs
paired (cons k (cons v ts)) = pair k v (paired ts)
paired ts = no_pairs

abbrev pub shape_from : List (List ℕ) → Shape
shape_from t =
    record {
      role = role_from (number (first (rest t)));
      sort = first t;
      label = first (rest (rest (rest t)));
      rule = number (first (rest (rest t)));
    }

abbrev pub pick : ℕ → ℤ → List (List ℕ) → Plains → Plain
pick zero n t ts = bool (from_bit n)
pick (suc zero) n t ts = int n
pick (suc (suc zero)) n t ts = text (first t)
pick (suc (suc (suc zero))) n t ts = location (scheme_from (number (first t))) (first (rest t)) (from_span_text (first (rest (rest t))))
pick (suc (suc (suc (suc zero)))) n t ts = tuple ts
pick (suc (suc (suc (suc (suc zero))))) n t ts = list ts
pick (suc (suc (suc (suc (suc (suc zero)))))) n t ts = set ts
pick (suc (suc (suc (suc (suc (suc (suc zero))))))) n t ts = mapping (paired ts)
pick (suc (suc (suc (suc (suc (suc (suc (suc zero)))))))) n t ts = node (first t) ts
pick (suc (suc (suc (suc (suc (suc (suc (suc (suc zero))))))))) n t ts = tree (shape_from (rest t)) ts
pick (suc (suc (suc (suc (suc (suc (suc (suc (suc (suc k)))))))))) n t ts = leaf (first t)

abbrev mutual
  pub from_rose : Rose → Plain
  from_rose (rose k n t rs) = pick k n t (from_roses rs)

  pub from_roses : Roses → Plains
  from_roses no_roses = nil
  from_roses (more r rs) = cons (from_rose r) (from_roses rs)

from_bit-bit : (b : Bool) → from_bit (bit b) ≡ b
from_bit-bit true = refl
from_bit-bit false = refl

from_span_text-span_text : (s : Option (ℕ × ℕ)) → from_span_text (span_text s) ≡ s
from_span_text-span_text None = refl
from_span_text-span_text (Some p) = refl

scheme_from-scheme_rank : (s : Scheme) → scheme_from (scheme_rank s) ≡ s
scheme_from-scheme_rank Cwd = refl
scheme_from-scheme_rank Unknown = refl

role_from-role_rank : (r : Role) → role_from (role_rank r) ≡ r
role_from-role_rank Syntax = refl
role_from-role_rank Lexical = refl
role_from-role_rank Layout = refl
role_from-role_rank Keyword = refl
role_from-role_rank Rep = refl
role_from-role_rank Opt = refl

mutual
  pub from_rose-to_rose : (t : Plain) → from_rose (to_rose t) ≡ t
  from_rose-to_rose (bool b) = ap bool (from_bit-bit b)
  from_rose-to_rose (int n) = refl
  from_rose-to_rose (text bytes) = refl
  from_rose-to_rose (location scheme path span) = λ i. location (scheme_from-scheme_rank scheme i) path (from_span_text-span_text span i)
  from_rose-to_rose (tuple ts) = ap tuple (from_roses-to_roses ts)
  from_rose-to_rose (list ts) = ap list (from_roses-to_roses ts)
  from_rose-to_rose (set ts) = ap set (from_roses-to_roses ts)
  from_rose-to_rose (mapping ps) = ap mapping (paired-pair_roses ps)
  from_rose-to_rose (node name ts) = ap (node name) (from_roses-to_roses ts)
  from_rose-to_rose (tree p ts) =
      λ i. tree (record { role = role_from-role_rank p.role i; sort = p.sort; label = p.label; rule = p.rule }) (from_roses-to_roses ts i)
  from_rose-to_rose (leaf bytes) = refl

  from_roses-to_roses : (ts : Plains) → from_roses (to_roses ts) ≡ ts
  from_roses-to_roses nil = refl
  from_roses-to_roses (cons t ts) = λ i. cons (from_rose-to_rose t i) (from_roses-to_roses ts i)

  paired-pair_roses : (ps : Pairs) → paired (from_roses (pair_roses ps)) ≡ ps
  paired-pair_roses no_pairs = refl
  paired-pair_roses (pair k v ps) = λ i. pair (from_rose-to_rose k i) (from_rose-to_rose v i) (paired-pair_roses ps i)

abbrev pub plain_code : Coded Plain
plain_code = code_by Rose coded_rose to_rose from_rose from_rose-to_rose

then-equal : (o : Ordering) → o ≡ ordering_then o Equal
then-equal Less = refl
then-equal Equal = refl
then-equal Greater = refl

same_bool : (a b : Bool) → bool_cmp a b ≡ ordering_then (int_cmp (bit a) (bit b)) Equal
same_bool true true = refl
same_bool true false = refl
same_bool false true = refl
same_bool false false = refl

same_span : (p q : Option (ℕ × ℕ)) → option_cmp span_cmp p q ≡ bytes_cmp (span_text p) (span_text q)
same_span None None = refl
same_span None (Some q) = refl
same_span (Some p) None = refl
same_span (Some p) (Some q) = ap (ordering_then (nat_cmp p.0 q.0)) (then-equal (nat_cmp p.1 q.1))

-- a scheme, a path and a span
same_three : (a b c : Ordering)
    → ordering_then a (ordering_then b c)
    ≡ ordering_then (ordering_then (ordering_then a Equal) (ordering_then b (ordering_then c Equal))) Equal
same_three Less b c = refl
same_three Greater b c = refl
same_three Equal Less c = refl
same_three Equal Greater c = refl
same_three Equal Equal c = then-equal c ∙ then-equal _

-- a text, a sort, a role, a rule and a label, and then the parts
same_five : (a b c d e o : Ordering)
    → ordering_then a (ordering_then (ordering_then b (ordering_then c (ordering_then d e))) o)
    ≡ ordering_then (ordering_then a (ordering_then b (ordering_then (ordering_then c Equal)
    (ordering_then (ordering_then d Equal) (ordering_then e Equal))))) o
same_five Less b c d e o = refl
same_five Greater b c d e o = refl
same_five Equal Less c d e o = refl
same_five Equal Greater c d e o = refl
same_five Equal Equal Less d e o = refl
same_five Equal Equal Greater d e o = refl
same_five Equal Equal Equal Less e o = refl
same_five Equal Equal Equal Greater e o = refl
same_five Equal Equal Equal Equal e o = ap (λ x. ordering_then x o) (then-equal e)

mutual
  same_cmp : (a b : Plain) → plain_cmp a b ≡ rose_cmp (to_rose a) (to_rose b)
  same_cmp (bool a) (bool b) = same_bool a b
  same_cmp (int m) (int n) = then-equal _
  same_cmp (text a) (text b) = then-equal _ ∙ then-equal _
  same_cmp (location s p a) (location t q b) =
      ap (λ o. ordering_then (nat_cmp (scheme_rank s) (scheme_rank t)) (ordering_then (bytes_cmp p q) o)) (same_span a b)
      ∙ same_three (nat_cmp (scheme_rank s) (scheme_rank t)) (bytes_cmp p q) (bytes_cmp (span_text a) (span_text b))
  same_cmp (tuple a) (tuple b) = same_cmp_all a b
  same_cmp (list a) (list b) = same_cmp_all a b
  same_cmp (set a) (set b) = same_cmp_all a b
  same_cmp (mapping a) (mapping b) = same_cmp_pairs a b
  same_cmp (node m a) (node n b) = (λ i. ordering_then (then-equal (bytes_cmp m n) i) (same_cmp_all a b i))
  same_cmp (tree p a) (tree q b) =
      ap (λ o. ordering_then (bytes_cmp (plains_text a) (plains_text b)) (ordering_then (shape_cmp p q) o)) (same_cmp_all a b)
      ∙ same_five (bytes_cmp (plains_text a) (plains_text b)) (bytes_cmp p.sort q.sort) (nat_cmp (role_rank p.role) (role_rank q.role))
      (nat_cmp p.rule q.rule) (bytes_cmp p.label q.label) (roses_cmp (to_roses a) (to_roses b))
  same_cmp (leaf a) (leaf b) = then-equal _ ∙ then-equal _
  same_cmp a b = refl

  same_cmp_all : (a b : Plains) → plains_cmp a b ≡ roses_cmp (to_roses a) (to_roses b)
  same_cmp_all nil nil = refl
  same_cmp_all nil (cons t ts) = refl
  same_cmp_all (cons t ts) nil = refl
  same_cmp_all (cons s ss) (cons t ts) = λ i. ordering_then (same_cmp s t i) (same_cmp_all ss ts i)

  same_cmp_pairs : (a b : Pairs) → pairs_cmp a b ≡ roses_cmp (pair_roses a) (pair_roses b)
  same_cmp_pairs no_pairs no_pairs = refl
  same_cmp_pairs no_pairs (pair k v ps) = refl
  same_cmp_pairs (pair k v ps) no_pairs = refl
  same_cmp_pairs (pair k v ps) (pair l w qs) = λ i. ordering_then (same_cmp k l i) (ordering_then (same_cmp v w i) (same_cmp_pairs ps qs i))

pub plain_cmp_total : IsTotalOrder plain_cmp
plain_cmp_total =
    let agree : plain_cmp ≡ (λ a b. rose_cmp (to_rose a) (to_rose b)) = λ i a b. same_cmp a b i in
    subst IsTotalOrder (sym agree) (on_total to_rose rose_cmp_total)

-- two values tie only where they are the same
pub plain_exact : (a b : Plain) → plain_cmp a b ≡ Equal → a ≡ b
plain_exact a b e =
    sym (from_rose-to_rose a) ∙ ap from_rose (rose_exact (to_rose a) (to_rose b) (sym (same_cmp a b) ∙ e)) ∙ from_rose-to_rose b

pub plain_tied : (a : Plain) → plain_cmp a a ≡ Equal
plain_tied a = same_cmp a a ∙ rose_tied (to_rose a)

-- whether two values are the same
abbrev pub plain_eq : Plain → Plain → Bool
plain_eq = eq_by_cmp plain_cmp

pub plain_eq_equiv : IsEquivalence plain_eq
plain_eq_equiv = eq_by_cmp_equiv plain_cmp_total

pub equal_from : (o : Ordering) → is_eq o ≡ true → o ≡ Equal
equal_from Less e = cc
equal_from Equal e = refl
equal_from Greater e = cc

pub plain_same : (a b : Plain) → plain_eq a b ≡ true → a ≡ b
plain_same a b e = plain_exact a b (equal_from (plain_cmp a b) e)

pub plain_eq_itself : (a b : Plain) → a ≡ b → plain_eq a b ≡ true
plain_eq_itself a b e = subst (λ t. plain_eq a t ≡ true) e (ap is_eq (plain_tied a))

-- what `==` answers
pub plain_eq_is : (a b : Plain) (r : Bool) → r ≡ plain_eq a b → IsTrue r ↔ (a ≡ b)
plain_eq_is a b true e = (λ h. plain_same a b (sym e), λ h. refl)
plain_eq_is a b false e = (λ h. cc, λ h. let t = plain_eq_itself a b h in cc)
