-- A row that cannot begin with a token fails at it.
use Rattle.std.proofs.Common.{◌≡◌, ℕ, zero, suc, ◌+◌, ◌^◌, ◌<◌, ◌≤◌, nat_eq, nat_lt, Bool, true, false, cond, ◌&&◌, ◌||◌, List, Option, Some, None, length, slice_get, refl, sym, ap, ◌∙◌, subst, ⊎_elim, arith}
use Rattle.std.specs.Prelude.{◌==◌}
use Rattle.std.specs.Int.{bit_at}
use Rattle.std.specs.Int.Bits.{bit_or}
use Rattle.std.proofs.lemmas.Nat.Bits.{bit_at_or, bit_at_ones, bit_at-pow_same}
use Rattle.std.proofs.lemmas.List.{get_or_past}
use Rattle.std.proofs.lemmas.Bool.{eq-eqb, ne_eqb, eqb-true, lt-ltb, cases_lt}
use Rattle.std.proofs.lemmas.Bool.Decides.{eqb_tells}
use Rattle.rl_tokens.specs.Token as lexed
use Rattle.rl_tokens.specs.declared.terminal.TheConstants.{ASSOC, BRACKET, ID, LEFT, LOWER_ID, RIGHT, START, UPPER_ID}
use Rattle.rl_phrase.specs.Terminals.{Tokens, is_word, is_terminal, is_terminal_of}
use Rattle.rl_phrase.specs.declared.table.Rule.{Rule}
use Rattle.rl_phrase.specs.declared.table.Form.{Form}
use Rattle.rl_phrase.specs.declared.table.Form.TheVariants.{Term, Link, Named, Seq, Choice, Star, Plus, Opt, Not}
use Rattle.rl_phrase.specs.declared.firsts.First.{First}
use Rattle.rl_phrase.specs.Tree as tree
use Rattle.rl_phrase.specs.Tree.{none, more}
use Rattle.rl_phrase.specs.LeftRecursion.{HasNoLeftRecursion}
use Rattle.rl_phrase.specs.Phr.{Outcome, Fails, Gives, Meaning, Phr, after, and_then, or_else, in_turn, first_of_rows, optional, again, named, terminal, of_form, of_rule, phr}
use Rattle.rl_phrase.specs.Firsts.{AreFirsts, CannotBegin, LacksKind, anything, bit, covers, covers_rule, first_at, first_of_choice, first_of_form, first_of_parts, first_of_rule, is_word_terminal, kinds_of_terminal, then_first, unless_empty}
use Rattle.rl_phrase.proofs.Determined.{some}

-- what both sets together lack, each lacks
lacks_left : (a b k : ℕ) → bit_at (bit_or a b) k ≡ 0 → bit_at a k ≡ 0
lacks_left a b k e = let m = bit_at_or a b k in omega (arith, m, e)

lacks_right : (a b k : ℕ) → bit_at (bit_or a b) k ≡ 0 → bit_at b k ≡ 0
lacks_right a b k e = let m = bit_at_or a b k in omega (arith, m, e)

lacks_nothing : {A : Type 0} (k : ℕ) → LacksKind anything k → A
lacks_nothing k l = let ones = bit_at_ones 128 k l.0 in let e = l.1 in absurd (omega (arith, ones, e))

-- a kind whose bit is lacking is another
other_kind : (k b : ℕ) → k < 128 → bit_at (bit b) k ≡ 0 → (k == b) ≡ false
other_kind k b lt e = ⊎_elim
    (λ (q : (nat_eq k b ≡ true) × (k ≡ b)).
    let yes : nat_lt b 128 ≡ true = lt-ltb b 128 (let is = q.1 in omega (arith, is)) in
    let set : bit b ≡ 2 ^ b = ap (λ t. cond t (2 ^ b) 0) yes in
    let has : bit_at (2 ^ b) k ≡ 1 = ap (λ x. bit_at (2 ^ b) x) q.1 ∙ bit_at-pow_same b in
    let lacks : bit_at (2 ^ b) k ≡ 0 = subst (λ x. bit_at x k ≡ 0) set e in
    absurd (omega (arith, has, lacks)))
    (λ q. q.0) (eqb_tells k b)

module _ (text : List ℕ) (k : ℕ) (within : k < 128) where
  no_word : (which : ℕ) → is_word_terminal which ≡ false → is_word text which ≡ false
  no_word which q = by_tests (which == LEFT) (which == RIGHT) (which == ASSOC) (which == BRACKET) (which == START) _ _ _ _ _ q
    where
      by_tests : (l r a b s x y z u v : Bool) → (l || r || a || b || s) ≡ false → cond l x (cond r y (cond a z (cond b u (cond s v false)))) ≡ false
      by_tests false false false false false x y z u v q = refl
      by_tests true r a b s x y z u v q = cc
      by_tests false true a b s x y z u v q = cc
      by_tests false false true b s x y z u v q = cc
      by_tests false false false true s x y z u v q = cc
      by_tests false false false false true x y z u v q = cc

  -- the token is not the terminal, nor a name where that is one, nor a word where that is one
  by_parts : (own upper lower id word : Bool) → own ≡ false → (id ≡ true → (upper ≡ false) × (lower ≡ false)) → (word ≡ true → lower ≡ false) → (own || (id && (upper || lower)) || (lower && word)) ≡ false
  by_parts own upper lower true word o i w = rw (o, (i refl).0, (i refl).1) refl
  by_parts own upper lower false true o i w = rw (o, w refl) refl
  by_parts own upper lower false false o i w = rw o (and_false lower)
    where
      and_false : (b : Bool) → (b && false) ≡ false
      and_false true = refl
      and_false false = refl

  no_terminal : (which : ℕ) → bit_at (kinds_of_terminal which) k ≡ 0 → is_terminal_of k text which ≡ false
  no_terminal which e = by_id (which == ID) refl
    where
      own_of : (id word : Bool) → bit_at (cond id (bit_or (bit_or (bit which) (bit UPPER_ID)) (bit LOWER_ID)) (cond word (bit_or (bit which) (bit LOWER_ID)) (bit which))) k ≡ 0 → bit_at (bit which) k ≡ 0
      own_of true word e = lacks_left (bit which) (bit UPPER_ID) k (lacks_left (bit_or (bit which) (bit UPPER_ID)) (bit LOWER_ID) k e)
      own_of false true e = lacks_left (bit which) (bit LOWER_ID) k e
      own_of false false e = e

      own : (k == which) ≡ false
      own = other_kind k which within (own_of (which == ID) (is_word_terminal which) e)

      lower_of_word : is_word_terminal which ≡ true → (k == LOWER_ID) ≡ false
      lower_of_word w = other_kind k LOWER_ID within (by (which == ID) (is_word_terminal which) w e)
        where
          by : (id word : Bool) → word ≡ true → bit_at (cond id (bit_or (bit_or (bit which) (bit UPPER_ID)) (bit LOWER_ID)) (cond word (bit_or (bit which) (bit LOWER_ID)) (bit which))) k ≡ 0 → bit_at (bit LOWER_ID) k ≡ 0
          by true word w e = lacks_right (bit_or (bit which) (bit UPPER_ID)) (bit LOWER_ID) k e
          by false true w e = lacks_right (bit which) (bit LOWER_ID) k e
          by false false w e = cc

      names : (which == ID) ≡ true → ((k == UPPER_ID) ≡ false) × ((k == LOWER_ID) ≡ false)
      names q =
          let all = subst (λ id. bit_at (cond id (bit_or (bit_or (bit which) (bit UPPER_ID)) (bit LOWER_ID)) (cond (is_word_terminal which) (bit_or (bit which) (bit LOWER_ID)) (bit which))) k ≡ 0) q e in (
            other_kind k UPPER_ID within (lacks_right (bit which) (bit UPPER_ID) k (lacks_left (bit_or (bit which) (bit UPPER_ID)) (bit LOWER_ID) k all)),
            other_kind k LOWER_ID within (lacks_right (bit_or (bit which) (bit UPPER_ID)) (bit LOWER_ID) k all),
          )

      lower_of_text : is_word text which ≡ true → (k == LOWER_ID) ≡ false
      lower_of_text w = by (is_word_terminal which) refl
        where
          by : (b : Bool) → is_word_terminal which ≡ b → (k == LOWER_ID) ≡ false
          by true q = lower_of_word q
          by false q = let no = no_word which q in cc

      by_id : (id : Bool) → (which == ID) ≡ id → is_terminal_of k text which ≡ false
      by_id id q = by_parts (k == which) (k == UPPER_ID) (k == LOWER_ID) (which == ID) (is_word text which) own names lower_of_text

module _ (at : ℕ) where
  -- nothing is taken and nothing but the token is tried: it fails there, or, if it may, it gives nothing
  abbrev Claim : Bool → Option Outcome → Type 0
  Claim may None = Unit {0}
  Claim may (Some (Fails far)) = far ≡ at
  Claim may (Some (Gives trees next far)) = (may ≡ true) × (trees ≡ none) × (next ≡ at) × (far ≤ at)

  -- the same of no rows at all, which fail before the token
  abbrev Below : Bool → Option Outcome → Type 0
  Below may None = Unit {0}
  Below may (Some (Fails far)) = far ≤ at
  Below may (Some (Gives trees next far)) = (may ≡ true) × (trees ≡ none) × (next ≡ at) × (far ≤ at)

  below : (may : Bool) (o : Option Outcome) → Claim may o → Below may o
  below may None c = tt
  below may (Some (Fails far)) c = omega (arith, c)
  below may (Some (Gives ts next far)) c = c

  weaker : (a b : Bool) (o : Option Outcome) → cond b a true ≡ true → Claim b o → Claim a o
  weaker a b None q c = tt
  weaker a b (Some (Fails far)) q c = c
  weaker a b (Some (Gives ts next far)) q c = (subst (λ x. cond x a true ≡ true) c.0 q, c.1, c.2, c.3)

  afters : (may : Bool) (far : ℕ) (o : Option Outcome) → far ≤ at → Claim may o → Claim may (after none far o)
  afters may far None le c = tt
  afters may far (Some (Fails f)) le c = omega (arith, le, c)
  afters may far (Some (Gives us next f)) le c = let f_le = c.3 in (c.0, c.1, c.2, omega (arith, le, f_le))

  and_thens : (first may : Bool) (o : Option Outcome) (go : ℕ → Option Outcome) → Claim first o → (first ≡ true → Claim may (go at)) → Claim may (and_then o go)
  and_thens first may None go c rest = tt
  and_thens first may (Some (Fails far)) go c rest = c
  and_thens first may (Some (Gives ts next far)) go c rest =
      subst (λ n. Claim may (after ts far (go n))) (sym c.2)
      (subst (λ x. Claim may (after x far (go at))) (sym c.1) (afters may far (go at) c.3 (rest c.0)))

  or_elses : (first other : Bool) (o p : Option Outcome) → Claim first o → Below other p → Claim (first || other) (or_else o p)
  or_elses first other None p c b = tt
  or_elses first other (Some (Fails far)) None c b = tt
  or_elses first other (Some (Fails far)) (Some (Fails f)) c b = omega (arith, c, b)
  or_elses first other (Some (Fails far)) (Some (Gives us next f)) c b =
      let f_le = b.3 in (or_true first other b.0, b.1, b.2, omega (arith, c, f_le))
    where
      or_true : (a b : Bool) → b ≡ true → (a || b) ≡ true
      or_true true b q = refl
      or_true false b q = q
  or_elses first other (Some (Gives ts next far)) p c b = (true_or first other c.0, c.1, c.2, c.3)
    where
      true_or : (a b : Bool) → a ≡ true → (a || b) ≡ true
      true_or true b q = refl
      true_or false b q = cc

  optionals : (may : Bool) (o : Option Outcome) → Claim may o → Claim true (optional at o)
  optionals may None c = tt
  optionals may (Some (Fails far)) c = (refl, refl, refl, omega (arith, c))
  optionals may (Some (Gives ts next far)) c = (refl, c.1, c.2, c.3)

  nameds : (row : ℕ) (o : Option Outcome) → Claim false o → Claim false (named row at o)
  nameds row None c = tt
  nameds row (Some (Fails far)) c = c
  nameds row (Some (Gives ts next far)) c = let no = c.0 in cc

  agains : (may : Bool) (same : ℕ → Option Outcome) → may ≡ true → Claim may (again same at at)
  agains may same q = subst (λ b. Claim may (cond b (Some (Gives none at 0)) (optional at (same at)))) (sym (eq-eqb at at refl)) (q, refl, refl, omega arith)

module _ (tokens : Tokens) (firsts : List First) (at : ℕ) (t : lexed.Token) (is : slice_get tokens at ≡ Some t) where
  -- what holds of each row, as far as some levels tell
  abbrev Holds : Meaning → Type 0
  Holds row_at = (row : ℕ) → LacksKind (first_at firsts row) t.kind → Claim at (first_at firsts row).may_be_empty (row_at row at)

  turn_step : (part others : First) (o : Option Outcome) (go : ℕ → Option Outcome) → (LacksKind part t.kind → Claim at part.may_be_empty o) → (LacksKind others t.kind → Claim at others.may_be_empty (go at))
      → LacksKind (then_first part others) t.kind → Claim at (then_first part others).may_be_empty (and_then o go)
  turn_step part others o go one rest l = by part.may_be_empty refl
    where
      both : First
      both = record { kinds = bit_or part.kinds others.kinds; may_be_empty = others.may_be_empty }

      by : (b : Bool) → part.may_be_empty ≡ b → Claim at (then_first part others).may_be_empty (and_then o go)
      by true q =
          let e : then_first part others ≡ both = ap (λ b. cond b both part) q in
          let lacks = subst (λ (f : First). LacksKind f t.kind) e l in
          subst (λ (f : First). Claim at f.may_be_empty (and_then o go)) (sym e)
          (and_thens at part.may_be_empty others.may_be_empty o go (one (lacks.0, lacks_left part.kinds others.kinds t.kind lacks.1))
          (λ _. rest (lacks.0, lacks_right part.kinds others.kinds t.kind lacks.1)))
      by false q =
          let e : then_first part others ≡ part = ap (λ b. cond b both part) q in
          let lacks = subst (λ (f : First). LacksKind f t.kind) e l in
          subst (λ (f : First). Claim at f.may_be_empty (and_then o go)) (sym e)
          (and_thens at part.may_be_empty part.may_be_empty o go (one lacks) (λ yes. absurd (let no = q in cc)))

  module _ (row_at : Meaning) (h : Holds row_at) where
    turns : (first count : ℕ) → LacksKind (first_of_parts firsts first count) t.kind → Claim at (first_of_parts firsts first count).may_be_empty (in_turn row_at first count at)
    turns first zero l = (refl, refl, refl, omega arith)
    turns first (suc count) l = turn_step (first_at firsts first) (first_of_parts firsts (first + 1) count) (row_at first at) (in_turn row_at (first + 1) count) (h first) (turns (first + 1) count) l

    choices : (first count : ℕ) → LacksKind (first_of_choice firsts first (suc count)) t.kind → Claim at (first_of_choice firsts first (suc count)).may_be_empty (first_of_rows row_at first (suc count) at)
    choices first zero l =
        or_elses at (first_at firsts first).may_be_empty false (row_at first at) (Some (Fails 0)) (h first (l.0, lacks_left (first_at firsts first).kinds 0 t.kind l.1)) (omega arith)
    choices first (suc count) l =
        let part = first_at firsts first in
        let others = first_of_choice firsts (first + 1) (suc count) in
        let rest = first_of_rows row_at (first + 1) (suc count) at in
        or_elses at part.may_be_empty others.may_be_empty (row_at first at) rest (h first (l.0, lacks_left part.kinds others.kinds t.kind l.1))
        (below at others.may_be_empty rest (choices (first + 1) count (l.0, lacks_right part.kinds others.kinds t.kind l.1)))

    forms : (row : ℕ) (form : Form) (first count : ℕ) → LacksKind (first_of_form firsts form first count) t.kind → Claim at (first_of_form firsts form first count).may_be_empty (of_form tokens row_at row form first count at)
    forms row (Term kind) first count l =
        let no : is_terminal t kind ≡ false = no_terminal t.text t.kind l.0 kind l.1 in
        subst (λ o. Claim at false (Some (terminal kind at o))) (sym is) (subst (λ b. Claim at false (Some (cond b (Gives (more (tree.Token at) none) (at + 1) 0) (Fails at)))) (sym no) refl)
    forms row Link first count l = h first l
    forms row Named first count l = by (first_of_parts firsts first count).may_be_empty refl
      where
        found : First
        found = first_of_parts firsts first count

        by : (b : Bool) → found.may_be_empty ≡ b → Claim at (unless_empty found).may_be_empty (named row at (in_turn row_at first count at))
        by true q = lacks_nothing t.kind (subst (λ b. LacksKind (cond b anything found) t.kind) q l)
        by false q =
            let e : unless_empty found ≡ found = ap (λ b. cond b anything found) q in
            let c : Claim at false (in_turn row_at first count at) = subst (λ b. Claim at b (in_turn row_at first count at)) q (turns first count (subst (λ (f : First). LacksKind f t.kind) e l)) in
            subst (λ b. Claim at b (named row at (in_turn row_at first count at))) (sym q ∙ ap (λ (f : First). f.may_be_empty) (sym e)) (nameds at row (in_turn row_at first count at) c)
    forms row Seq first count l = turns first count l
    forms row Choice first zero l = lacks_nothing t.kind l
    forms row Choice first (suc count) l =
        let e : first_of_form firsts Choice first (suc count) ≡ first_of_choice firsts first (suc count) = ap (λ b. cond b anything (first_of_choice firsts first (suc count))) (ne_eqb (suc count) 0 (λ q. absurd (omega arith))) in
        subst (λ (f : First). Claim at f.may_be_empty (first_of_rows row_at first (suc count) at)) (sym e) (choices first count (subst (λ (f : First). LacksKind f t.kind) e l))
    forms row Star first count l =
        optionals at true (and_then (in_turn row_at first count at) (again (row_at row) at))
        (and_thens at (first_of_parts firsts first count).may_be_empty true (in_turn row_at first count at) (again (row_at row) at) (turns first count l) (λ _. agains at true (row_at row) refl))
    forms row Plus first count l =
        and_thens at (first_of_parts firsts first count).may_be_empty (first_of_parts firsts first count).may_be_empty (in_turn row_at first count at) (again (row_at row) at)
        (turns first count l) (λ q. agains at (first_of_parts firsts first count).may_be_empty (row_at row) q)
    forms row Opt first count l = optionals at (first_of_parts firsts first count).may_be_empty (in_turn row_at first count at) (turns first count l)
    forms row Not first count l = lacks_nothing t.kind l

  module _ (rules : List Rule) (are : AreFirsts rules firsts) where
    covered : (row_at : Meaning) → Holds row_at → (row : ℕ) (o : Option Rule) → slice_get rules row ≡ o → row < length firsts → LacksKind (first_at firsts row) t.kind
        → Claim at (first_at firsts row).may_be_empty (of_rule tokens row_at row o at)
    covered row_at h row None e lt l = let no = subst (λ o. covers_rule firsts row o ≡ true) e (are row lt) in cc
    covered row_at h row (Some rule) e lt l =
        let yes : covers (first_at firsts row) (first_of_rule firsts rule) ≡ true = subst (λ o. covers_rule firsts row o ≡ true) e (are row lt) in
        let both = both_true (nat_eq (bit_or (first_at firsts row).kinds (first_of_rule firsts rule).kinds) (first_at firsts row).kinds) (cond (first_of_rule firsts rule).may_be_empty (first_at firsts row).may_be_empty true) yes in
        let same : bit_or (first_at firsts row).kinds (first_of_rule firsts rule).kinds ≡ (first_at firsts row).kinds = eqb-true _ _ both.0 in
        let lacks : bit_at (first_of_rule firsts rule).kinds t.kind ≡ 0 = lacks_right (first_at firsts row).kinds (first_of_rule firsts rule).kinds t.kind (ap (λ x. bit_at x t.kind) same ∙ l.1) in
        weaker at (first_at firsts row).may_be_empty (first_of_rule firsts rule).may_be_empty (of_rule tokens row_at row (Some rule) at) both.1
        (forms row_at h row rule.form rule.first rule.count (l.0, lacks))
      where
        both_true : (a b : Bool) → (a && b) ≡ true → (a ≡ true) × (b ≡ true)
        both_true true true q = (refl, refl)
        both_true true false q = cc
        both_true false b q = cc

    levels : (n : ℕ) → Holds (phr tokens rules n)
    levels zero row l = tt
    levels (suc n) row l = ⊎_elim
        (λ (lt : row < length firsts). covered (phr tokens rules n) (levels n) row (slice_get rules row) refl lt l)
        (λ (le : length firsts ≤ row). lacks_nothing t.kind (subst (λ (f : First). LacksKind f t.kind) (get_or_past firsts row anything le) l)) (cases_lt row (length firsts))

pub passed_over : (tokens : Tokens) (rules : List Rule) (firsts : List First) (row at : ℕ) → HasNoLeftRecursion rules → AreFirsts rules firsts → CannotBegin tokens firsts row at
    → Phr tokens rules row at (Fails at)
passed_over tokens rules firsts row at no_recursion are (t, is, taking, lacks) =
    let found = some tokens rules row at no_recursion in
    let tells = found.1.tells found.1.enough (omega arith) in
    let claim : Claim at (first_at firsts row).may_be_empty (Some found.0) = subst (λ o. Claim at (first_at firsts row).may_be_empty o) tells (levels tokens firsts at t is rules are found.1.enough row lacks) in
    subst (λ o. Phr tokens rules row at o) (fails found.0 (subst (λ b. Claim at b (Some found.0)) taking claim)) found.1
  where
    fails : (o : Outcome) → Claim at false (Some o) → o ≡ Fails at
    fails (Fails far) c = ap Fails c
    fails (Gives ts next far) c = let no = c.0 in cc
