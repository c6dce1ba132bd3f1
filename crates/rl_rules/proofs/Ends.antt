-- How rules end, where each form that they use ends as its law says.
use Rattle.std.proofs.Common.{ℕ, ◌+◌, Bool, true, false, if◌then◌else◌, List, [], ◌∷◌, ◌++◌, map, flat_map, Option, Some, None}
use Rattle.std.specs.Prelude.{nat_lt}
use Rattle.rl_exception.specs.Answer as answer
use Rattle.rl_exception.specs.Exceptions.{wrong_kind}
use Rattle.rl_access.specs.Elements.{subscript_of}
use Rattle.rl_access.specs.Ranges.{range_of}
use Rattle.rl_access.specs.Slices.{slice_of}
use Rattle.rl_relation.specs.Closures.{closure_of, reflexive_closure_of}
use Rattle.rl_match.specs.Bindings.{Binding, bindings}
use Rattle.rl_match.specs.Tests.{outside_tests}
use Rattle.rl_syntax.specs.declared.expression.Exp.{Exp, out-Exp}
use Rattle.rl_syntax.specs.declared.expression.Exp.TheOpen as e
use Rattle.rl_syntax.specs.declared.expression.Suffix.{Suffix, out-Suffix}
use Rattle.rl_syntax.specs.declared.pattern.Pattern.{Pattern}
use Rattle.rl_syntax.specs.declared.statement.Case.{Case}
use Rattle.rl_syntax.specs.declared.statement.Handler.{Handler}
use Rattle.rl_syntax.specs.declared.statement.Stat.{Stat}
use Rattle.rl_value.specs.Plain.{Plain, bool, list, set}
use Rattle.rl_rules.specs.Assignments.{written}
use Rattle.rl_rules.specs.Calls.{body}
use Rattle.rl_rules.specs.Collections.{spliced, element, elements, entries, entry_value}
use Rattle.rl_rules.specs.Conditions.{on_truth, matched_members, members_of, bindings_on_each, enumerated_members, enumerated_elements, enumerated, elements_of, match_at, enumeration_at, condition, conditions, conditions_in, where_all}
use Rattle.rl_rules.specs.Exceptions.{is_missing, fallen_back}
use Rattle.rl_rules.specs.Form.{expression}
use Rattle.rl_rules.specs.Laws.{IsEnd, IsEndOrMiss, EndsSo, HasAsMany, HasPile}
use Rattle.rl_rules.specs.Literals.{literal, where_there, with_value, it_or_none, shown_between, interpolation}
use Rattle.rl_rules.specs.Members.{under_member, end_of_members, members, without_value, raise_or, on_tested}
use Rattle.rl_rules.specs.Operators as o
use Rattle.rl_rules.specs.Parts.{raise, limited, greatest_depth, part, value_of, parts, one_more, used}
use Rattle.rl_rules.specs.Program.{Program, context}
use Rattle.rl_rules.specs.Rule.{Outcome, Val, Ret, Brk, Cnt, Fail, Ins, Thr, Miss, Kept, Stop, Rule, Give, Use, Take, Print, Read, Wrong, after, on_value, throw, wrong_operand, refused, is_wrong_kind, on_answer, give, give_answer, dropping}
use Rattle.rl_rules.specs.Scopes.{leave_scope, scoped, statements}
use Rattle.rl_rules.specs.State.{State, read, declare_all, open_scope}
use Rattle.rl_rules.proofs.Counts.{close-like, declare_all-like, like-refl, like-trans}

-- the rule ends so, where each form that it uses ends as its law says
abbrev pub Ends : (Outcome → State → Type 0) → Rule → Type 0
Ends P (Give r s) = P r s
Ends P (Use f d s go) = HasPile f s × ((r : Outcome) (t : State) → EndsSo f r → HasAsMany s t → Ends P (go r t))
Ends P (Take rule) = Ends P rule
Ends P (Print bytes rule) = Ends P rule
Ends P (Read path go) = (found : Option (List ℕ)) → Ends P (go found)
Ends P (Wrong rule) = Ends P rule

pub ends-after : (P Q : Outcome → State → Type 0) (rule : Rule) (go : Outcome → State → Rule) → Ends P rule → ((r : Outcome) (s : State) → P r s → Ends Q (go r s)) → Ends Q (after rule go)
ends-after P Q (Give r s) go h k = k r s h
ends-after P Q (Use f d s next) go h k = (h.0, λ r t e l. ends-after P Q (next r t) go (h.1 r t e l) k)
ends-after P Q (Take rule) go h k = ends-after P Q rule go h k
ends-after P Q (Print bytes rule) go h k = ends-after P Q rule go h k
ends-after P Q (Read path next) go h k = λ found. ends-after P Q (next found) go (h found) k
ends-after P Q (Wrong rule) go h k = ends-after P Q rule go h k

pub ends-weaken : (P Q : Outcome → State → Type 0) (rule : Rule) → Ends P rule → ((r : Outcome) (s : State) → P r s → Q r s) → Ends Q rule
ends-weaken P Q (Give r s) h k = k r s h
ends-weaken P Q (Use f d s next) h k = (h.0, λ r t e l. ends-weaken P Q (next r t) (h.1 r t e l) k)
ends-weaken P Q (Take rule) h k = ends-weaken P Q rule h k
ends-weaken P Q (Print bytes rule) h k = ends-weaken P Q rule h k
ends-weaken P Q (Read path next) h k = λ found. ends-weaken P Q (next found) (h found) k
ends-weaken P Q (Wrong rule) h k = ends-weaken P Q rule h k

-- in such an outcome, and in a state that has as many
abbrev pub So : (Outcome → Type 0) → State → Outcome → State → Type 0
So Q s r t = Q r × HasAsMany s t

from-like : (Q : Outcome → Type 0) (s t : State) → HasAsMany s t → (rule : Rule) → Ends (So Q t) rule → Ends (So Q s) rule
from-like Q s t l rule h = ends-weaken (So Q t) (So Q s) rule h (λ r u k. (k.0, like-trans s t u l k.1))

abbrev pub Any : Outcome → Type 0
Any r = Unit {0}

abbrev pub IsEndOrKept : Outcome → Type 0
IsEndOrKept Miss = Unit {0}
IsEndOrKept Kept = Unit {0}
IsEndOrKept r = IsEnd r

pub end-or_miss : (r : Outcome) → IsEnd r → IsEndOrMiss r
end-or_miss Miss h = tt
end-or_miss r h = h

pub end-or_kept : (r : Outcome) → IsEnd r → IsEndOrKept r
end-or_kept Miss h = tt
end-or_kept Kept h = tt
end-or_kept r h = h

module _ (Q : Outcome → Type 0) (fit : (r : Outcome) → IsEnd r → Q r) (s : State) where
  abbrev Well : Rule → Type 0
  Well rule = Ends (So Q s) rule

  -- from each state that has as many as this one
  abbrev pub Stays : (State → Rule) → Type 0
  Stays rule = (t : State) → HasAsMany s t → Well (rule t)

  abbrev Goes : (Plain → State → Rule) → Type 0
  Goes go = (v : Plain) → Stays (go v)

  throw-well : Goes throw
  throw-well v t l = (fit (Thr v) tt, l)

  pub give-well : Goes give
  give-well v t l = (fit (Val v) tt, l)

  wrong-well : Stays wrong_operand
  wrong-well t l = (fit (Thr wrong_kind) tt, l)

  pub either-well : (b : Bool) (x y : Rule) → Well x → Well y → Well (if b then x else y)
  either-well true x y h k = h
  either-well false x y h k = k

  refused-well : Goes refused
  refused-well x t l = either-well (is_wrong_kind x) _ _ (wrong-well t l) (throw-well x t l)

  pub answer-well : (given : answer.Answer) (go : Plain → State → Rule) → Goes go → Stays (on_answer given go)
  answer-well (answer.Gives v) go h t l = h v t l
  answer-well (answer.Throws x) go h t l = refused-well x t l

  give_answer-well : (given : answer.Answer) → Stays (give_answer given)
  give_answer-well given = answer-well given give give-well

  pub raise-well : Goes raise
  raise-well x = give_answer-well (answer.throwing x)

  literal-well : Goes literal
  literal-well v = give_answer-well (answer.fitting v)

  on_value-well : (go : Plain → State → Rule) → Goes go → (r : Outcome) → IsEnd r → Stays (on_value go r)
  on_value-well go h (Val v) e t l = h v t l
  on_value-well go h (Ret v) e t l = (fit (Ret v) e, l)
  on_value-well go h Brk e t l = (fit Brk e, l)
  on_value-well go h Cnt e t l = (fit Cnt e, l)
  on_value-well go h Fail e t l = (fit Fail e, l)
  on_value-well go h (Ins v) e t l = (fit (Ins v) e, l)
  on_value-well go h (Thr v) e t l = (fit (Thr v) e, l)
  on_value-well go h Miss e t l = absurd e
  on_value-well go h Kept e t l = absurd e
  on_value-well go h Stop e t l = absurd e

  part-well : (x : Exp) (d : ℕ) (go : Plain → State → Rule) → Goes go → Stays (λ t. part x d t go)
  part-well x d go h t l = (tt, λ r u e k. on_value-well go h r e u (like-trans s t u l k))

  pub used-well : (x : Stat) (d : ℕ) → Stays (used x d)
  used-well x d t l = (tt, λ r u e k. (fit r e, like-trans s t u l k))

  pub limited-well : (d : ℕ) (rule : State → Rule) → Stays rule → Stays (limited d rule)
  limited-well d rule h t l = either-well (nat_lt greatest_depth d) _ _ (throw-well _ t l) (h t l)

  parts-well : (xs : List Exp) (d : ℕ) (go : List Plain → State → Rule) → ((us : List Plain) → Stays (go us)) → (vs : List Plain) → Stays (parts xs d go vs)
  parts-well [] d go h vs t l = h vs t l
  parts-well (x ∷ xs) d go h vs t l = part-well x d (one_more (parts xs d go) vs) (λ v u k. parts-well xs d go h (vs ++ v ∷ []) u k) t l

  raise_or-well : (missing : Option (List ℕ)) (rule : State → Rule) → Stays rule → Stays (raise_or missing rule)
  raise_or-well None rule h t l = h t l
  raise_or-well (Some name) rule h t l = raise-well _ t l

  pub tested-well : (patterns : List Pattern) (rule : State → Rule) → Stays rule → Stays (on_tested patterns rule)
  tested-well patterns rule h t l = raise_or-well (without_value t (outside_tests patterns)) rule h t l

  pub on_truth-well : (x y : State → Rule) → Stays x → Stays y → Goes (on_truth x y)
  on_truth-well x y h k (bool true) t l = h t l
  on_truth-well x y h k (bool false) t l = k t l
  on_truth-well x y h k v t l = wrong-well t l

  -- Members and conditions.

  under-well : (abandoned kept : State → Rule) (before : State) → Well (abandoned before) → (r : Outcome) → Q r → (t : State) → HasAsMany s t → (Q Kept → Well (kept t)) → Well (under_member abandoned kept before r t)
  under-well abandoned kept before h Miss q t l k = h
  under-well abandoned kept before h Fail q t l k = h
  under-well abandoned kept before h Kept q t l k = k q
  under-well abandoned kept before h (Val v) q t l k = (q, l)
  under-well abandoned kept before h (Ret v) q t l k = (q, l)
  under-well abandoned kept before h Brk q t l k = (q, l)
  under-well abandoned kept before h Cnt q t l k = (q, l)
  under-well abandoned kept before h (Ins v) q t l k = (q, l)
  under-well abandoned kept before h (Thr v) q t l k = (q, l)
  under-well abandoned kept before h Stop q t l k = (q, l)

  pub members-well : (bs : List Binding) (any : Bool) → Q (end_of_members any) → (under : State → Rule) → Stays under → Stays (members bs any under)
  members-well [] any q under h t l = (q, l)
  members-well (b ∷ bs) any q under h t l =
      ends-after (So Q s) (So Q s) (under (declare_all b t)) (under_member (members bs any under) (members bs true under) t)
      (h (declare_all b t) (like-trans s t _ l (declare_all-like b t)))
      (λ r u k. under-well (members bs any under) (members bs true under) t (members-well bs any q under h t l) r k.0 u k.1 (λ kept. members-well bs true kept under h u k.1))

  module _ (miss : Q Miss) where
    pub matched-well : (p : Program) (pattern : Pattern) (rest : State → Rule) → Stays rest → Goes (members_of p pattern rest)
    matched-well p pattern rest h v =
        tested-well (pattern ∷ []) (matched_members p pattern rest v) (λ t l. members-well (bindings (context p t) pattern v []) false miss rest h t l)

    enumerated-well : (p : Program) (pattern : Pattern) (rest : State → Rule) → Stays rest → (vs : Option (List Plain)) → Stays (enumerated_elements p pattern rest vs)
    enumerated-well p pattern rest h None t l = wrong-well t l
    enumerated-well p pattern rest h (Some vs) t l =
        tested-well (pattern ∷ []) (enumerated_members p pattern rest vs) (λ u k. members-well (bindings_on_each p pattern vs u) false miss rest h u k) t l

    pub match-well : (p : Program) (d : ℕ) (pattern : Pattern) (x : Exp) (rest : State → Rule) → Stays rest → Stays (match_at p d pattern x rest)
    match-well p d pattern x rest h = part-well x d (members_of p pattern rest) (matched-well p pattern rest h)

    pub enumeration-well : (p : Program) (d : ℕ) (pattern : Pattern) (x : Exp) (rest : State → Rule) → Stays rest → Stays (enumeration_at p d pattern x rest)
    enumeration-well p d pattern x rest h = part-well x d (enumerated p pattern rest) (λ v. enumerated-well p pattern rest h (elements_of v))

    plain-well : (d : ℕ) (c : Exp) (rest : State → Rule) → Stays rest → Stays (λ t. Use (expression c) d t (on_value (on_truth rest (Give Miss))))
    plain-well d c rest h t l =
        (tt, λ r u e k. on_value-well (on_truth rest (Give Miss)) (on_truth-well rest (Give Miss) h (λ w m. (miss, m))) r e u (like-trans s t u l k))

    condition-well : (p : Program) (d : ℕ) (c : Exp) (layer : e.Exp-F Exp Suffix Case Handler Stat) (rest : State → Rule) → Stays rest → Stays (condition p d c layer rest)
    condition-well p d c (e.Match place pattern x) rest h t l = limited-well d (match_at p d pattern x rest) (match-well p d pattern x rest h) t l
    condition-well p d c (e.Enumeration place pattern x) rest h t l = limited-well d (enumeration_at p d pattern x rest) (enumeration-well p d pattern x rest h) t l
    condition-well p d c layer rest h t l = plain-well d c rest h t l

    conditions-well : (p : Program) (cs : List Exp) (d : ℕ) (body : State → Rule) → Stays body → Stays (conditions p cs d body)
    conditions-well p [] d body h t l = h t l
    conditions-well p (c ∷ cs) d body h t l = condition-well p d c (out-Exp c) (conditions p cs d body) (conditions-well p cs d body h) t l

    pub where_all-well : (p : Program) (cs : List Exp) (d : ℕ) (body : State → Rule) → Stays body → Stays (where_all p cs d body)
    where_all-well p cs d body h = conditions-well p (flat_map conditions_in cs) (d + 1) body h

abbrev pub Always : (Outcome → Type 0) → (State → Rule) → Type 0
Always Q rule = (s : State) → Ends (So Q s) (rule s)

pub stays-from : (Q : Outcome → Type 0) (fit : (r : Outcome) → IsEnd r → Q r) (s : State) (rule : State → Rule) → Always Q rule → Stays Q fit s rule
stays-from Q fit s rule h t l = from-like Q s t l (rule t) (h t)

pub always-more : (Q : Outcome → Type 0) → ((r : Outcome) → IsEnd r → Q r) → (rule : State → Rule) → Always IsEnd rule → Always Q rule
always-more Q fit rule h s = ends-weaken (So IsEnd s) (So Q s) (rule s) (h s) (λ r t k. (fit r k.0, k.1))

pub scoped-always : (Q : Outcome → Type 0) (rule : State → Rule) → Always Q rule → Always Q (scoped rule)
scoped-always Q rule h s = ends-after (So Q (open_scope s)) (So Q s) (rule (open_scope s)) leave_scope (h (open_scope s)) (λ r t k. (k.0, close-like s t k.1))

-- what holds from each state that has as many holds from each state
pub at-each : (Q : Outcome → Type 0) (fit : (r : Outcome) → IsEnd r → Q r) (rule : State → Rule) → ((s : State) → Stays Q fit s rule) → Always Q rule
at-each Q fit rule h s = h s s (like-refl s)

pub same : (r : Outcome) → IsEnd r → IsEnd r
same r h = h

pub any : (r : Outcome) → IsEnd r → Any r
any r h = tt

-- what follows, where each end but a value is that of the whole
module _ (s : State) where
  abbrev W : Rule → Type 0
  W rule = Ends (So IsEnd s) rule

  abbrev pub S : (State → Rule) → Type 0
  S rule = Stays IsEnd same s rule

  abbrev pub G : (Plain → State → Rule) → Type 0
  G go = Goes IsEnd same s go

  pub part-ends : (x : Exp) (d : ℕ) (go : Plain → State → Rule) → G go → S (λ t. part x d t go)
  part-ends x d go h = part-well IsEnd same s x d go h

  pub value_of-ends : (x : Exp) (d : ℕ) → S (value_of x d)
  value_of-ends x d = part-ends x d give (give-well IsEnd same s)

  pub literal-ends : G literal
  literal-ends = literal-well IsEnd same s

  pub wrong-ends : S wrong_operand
  wrong-ends = wrong-well IsEnd same s

  pub answer-ends : (given : answer.Answer) → S (give_answer given)
  answer-ends = give_answer-well IsEnd same s

  pub scoped-ends : (rule : State → Rule) → Always IsEnd rule → S (scoped rule)
  scoped-ends rule h = stays-from IsEnd same s (scoped rule) (scoped-always IsEnd rule h)

  pub after-ends : (Q : Outcome → Type 0) (rule : State → Rule) (go : Outcome → State → Rule) → Always Q rule → ((r : Outcome) → Q r → S (go r)) → S (λ t. after (rule t) go)
  after-ends Q rule go h k t l = ends-after (So Q t) (So IsEnd s) (rule t) go (h t) (λ r u e. k r e.0 u (like-trans s t u l e.1))

  -- Statements in turn.

  pub statements-ends : (xs : List Stat) (d : ℕ) → S (statements xs d)
  statements-ends [] d t l = (tt, l)
  statements-ends (x ∷ xs) d t l =
      (tt, λ r u e k. on_value-well IsEnd same s (dropping (statements xs d)) (λ v w m. statements-ends xs d w m) r e u (like-trans s t u l k))

  -- Literals and variables.

  there-ends : (name : List ℕ) (go : Plain → State → Rule) → G go → (o : Option Plain) → S (where_there name go o)
  there-ends name go h None t l = raise-well IsEnd same s _ t l
  there-ends name go h (Some v) t l = h v t l

  pub with_value-ends : (n : ℕ) (name : List ℕ) (go : Plain → State → Rule) → G go → S (with_value n name go)
  with_value-ends n name go h t l = there-ends name go h (read n t) t l

  pub it-ends : (o : Option Plain) → S (it_or_none o)
  it-ends None t l = wrong-ends t l
  it-ends (Some v) t l = (tt, l)

  pub interpolation-ends : (rest : List (Exp × List ℕ)) (d : ℕ) (before : List ℕ) → S (interpolation rest d before)
  interpolation-ends [] d before t l = literal-ends _ t l
  interpolation-ends ((x, behind) ∷ rest) d before t l =
      part-ends x d (shown_between (interpolation rest d) before behind) (λ v u k. interpolation-ends rest d _ u k) t l

  -- Collections.

  spliced-ends : (go : List Plain → State → Rule) → ((vs : List Plain) → S (go vs)) → (vs : List Plain) → G (spliced go vs)
  spliced-ends go h vs (list us) t l = h _ t l
  spliced-ends go h vs (set us) t l = h _ t l
  spliced-ends go h vs v t l = wrong-ends t l

  element-ends : (x : Exp) (layer : e.Exp-F Exp Suffix Case Handler Stat) (d : ℕ) (go : List Plain → State → Rule) → ((vs : List Plain) → S (go vs)) → (vs : List Plain) → S (element x layer d go vs)
  element-ends x (e.Splice place y) d go h vs t l = part-ends y d (spliced go vs) (spliced-ends go h vs) t l
  element-ends x layer d go h vs t l = part-ends x d (one_more go vs) (λ v u k. h _ u k) t l

  pub elements-ends : (xs : List Exp) (d : ℕ) (go : List Plain → State → Rule) → ((vs : List Plain) → S (go vs)) → (vs : List Plain) → S (elements xs d go vs)
  elements-ends [] d go h vs t l = h vs t l
  elements-ends (x ∷ xs) d go h vs t l = element-ends x (out-Exp x) d (elements xs d go) (λ us. elements-ends xs d go h us) vs t l

  pub entries-ends : (written : List (Exp × Exp)) (d : ℕ) (go : List (Plain × Plain) → State → Rule) → ((ps : List (Plain × Plain)) → S (go ps)) → (ps : List (Plain × Plain)) → S (entries written d go ps)
  entries-ends [] d go h ps t l = h ps t l
  entries-ends ((x, y) ∷ written) d go h ps t l =
      part-ends x d (entry_value y d (entries written d go) ps) (λ k u m. part-ends y d _ (λ v w n. entries-ends written d go h _ w n) u m) t l

  pub parts-ends : (xs : List Exp) (d : ℕ) (go : List Plain → State → Rule) → ((us : List Plain) → S (go us)) → (vs : List Plain) → S (parts xs d go vs)
  parts-ends = parts-well IsEnd same s

  -- Operators.

  pub binary-ends : (op : Plain → Plain → answer.Answer) (x y : Exp) (d : ℕ) → S (o.binary op x y d)
  binary-ends op x y d = part-ends x d (o.right_operand op y d) (λ u t l. part-ends y d (o.operated op u) (λ v. answer-ends (op u v)) t l)

  pub right-ends : (op : Plain → Plain → answer.Answer) (y : Exp) (d : ℕ) → G (o.right_operand op y d)
  right-ends op y d u = part-ends y d (o.operated op u) (λ v. answer-ends (op u v))

  pub unary-ends : (op : Plain → answer.Answer) (x : Exp) (d : ℕ) → S (o.unary op x d)
  unary-ends op x d = part-ends x d (o.answered op) (λ v. answer-ends (op v))

  abbrev AreGood : List o.Operator → Type 0
  AreGood [] = Unit {0}
  AreGood (op ∷ ops) = ((d : ℕ) → G (op d)) × AreGood ops

  left-ends : (left : State → Rule) (op : o.Operator) (d : ℕ) → S left → G (op d) → S (o.with_left left op d)
  left-ends left op d h k t l = ends-after (So IsEnd s) (So IsEnd s) (left t) (on_value (op d)) (h t l) (λ r u e. on_value-well IsEnd same s (op d) k r e.0 u e.1)

  chain-ends : (x : Exp) (ops : List o.Operator) → AreGood ops → (d : ℕ) → S (o.chain x ops d)
  chain-ends x [] h d t l = (tt, λ r u e k. (e, like-trans s t u l k))
  chain-ends x (op ∷ ops) h d t l = limited-well IsEnd same s d (o.with_left (o.chain x ops (d + 1)) op d) (left-ends (o.chain x ops (d + 1)) op d (chain-ends x ops h.1 (d + 1)) (h.0 d)) t l

  whole-ends : (x : Exp) (ops : List o.Operator) → AreGood ops → (d : ℕ) → S (o.whole_chain x ops d)
  whole-ends x [] h d t l = chain-ends x [] h d t l
  whole-ends x (op ∷ ops) h d t l = left-ends (o.chain x ops (d + 1)) op d (chain-ends x ops h.1 (d + 1)) (h.0 d) t l

  reversed-good : (ops behind : List o.Operator) → AreGood ops → AreGood behind → AreGood (o.reversed ops behind)
  reversed-good [] behind h k = k
  reversed-good (op ∷ ops) behind h k = reversed-good ops (op ∷ behind) h.1 (h.0, k)

  pub in_chain-ends : (x : Exp) (ops : List o.Operator) → AreGood ops → (d : ℕ) → S (o.in_chain x ops d)
  in_chain-ends x ops h d = whole-ends x (o.reversed ops []) (reversed-good ops [] h tt) d

  pub operands-good : {O : Type 0} (given : O → Plain → Plain → answer.Answer) (rest : List (O × Exp)) → AreGood (o.with_operands given rest)
  operands-good given [] = tt
  operands-good given ((op, y) ∷ rest) = (λ d. right-ends (given op) y d, operands-good given rest)

  each-good : (op : Exp → o.Operator) → ((x : Exp) (d : ℕ) → G (op x d)) → (xs : List Exp) → AreGood (map op xs)
  each-good op h [] = tt
  each-good op h (x ∷ xs) = (h x, each-good op h xs)

  pub joined-ends : (op : Exp → o.Operator) → ((x : Exp) (d : ℕ) → G (op x d)) → (xs : List Exp) (d : ℕ) → S (o.joined_by op xs d)
  joined-ends op h [] d t l = wrong-ends t l
  joined-ends op h (x ∷ xs) d t l = in_chain-ends x (map op xs) (each-good op h xs) d t l

  truth-ends : G o.truth
  truth-ends = on_truth-well IsEnd same s (give (bool true)) (give (bool false)) (λ t l. (tt, l)) (λ t l. (tt, l))

  truth_part-ends : (y : Exp) (d : ℕ) → S (o.truth_part y d)
  truth_part-ends y d = part-ends y d o.truth truth-ends

  pub or-ends : (y : Exp) (d : ℕ) → G (o.or_right y d)
  or-ends y d = on_truth-well IsEnd same s (give (bool true)) (o.truth_part y d) (λ t l. (tt, l)) (truth_part-ends y d)

  pub implication-ends : (x y : Exp) (d : ℕ) → S (o.implication x y d)
  implication-ends x y d = part-ends x d (o.implied y d) (on_truth-well IsEnd same s (o.truth_part y d) (give (bool true)) (truth_part-ends y d) (λ t l. (tt, l)))

  pub no_match-ends : (p : Program) (pattern : Pattern) (x : Exp) (d : ℕ) → S (o.no_match p pattern x d)
  no_match-ends p pattern x d = part-ends x d (o.unmatched p pattern) (λ v. tested-well IsEnd same s (pattern ∷ []) (o.has_no_binding p pattern v) (λ t l. (tt, l)))

  range_end-ends : (u : Plain) (next : Option Plain) (z : Exp) (d : ℕ) → S (o.range_end u next z d)
  range_end-ends u next z d = part-ends z d (o.ranged u next) (λ v. answer-ends (range_of u next v))

  second-ends : (y : Option Exp) (z : Exp) (d : ℕ) → G (o.range_after_first y z d)
  second-ends None z d u t l = range_end-ends u None z d t l
  second-ends (Some y) z d u t l = part-ends y d (o.range_after_second z d u) (λ v w k. range_end-ends u (Some v) z d w k) t l

  pub range-ends : (x : Exp) (y : Option Exp) (z : Exp) (d : ℕ) → S (o.range x y z d)
  range-ends x y z d = part-ends x d (o.range_after_first y z d) (second-ends y z d)

  slice_end-ends : (to : Option Exp) (d : ℕ) (u : Plain) (from : Option Plain) → S (o.slice_end to d u from)
  slice_end-ends None d u from t l = answer-ends (slice_of u from None) t l
  slice_end-ends (Some y) d u from t l = part-ends y d (o.sliced_to u from) (λ v. answer-ends (slice_of u from (Some v))) t l

  slice-ends : (from to : Option Exp) (d : ℕ) → G (o.slice from to d)
  slice-ends None to d u t l = slice_end-ends to d u None t l
  slice-ends (Some x) to d u t l = part-ends x d (o.slice_after_start to d u) (λ v w k. slice_end-ends to d u (Some v) w k) t l

  suffix-good : (p : Program) (x : e.Suffix-F Exp Suffix Case Handler Stat) (d : ℕ) → G (o.suffix p x d)
  suffix-good p (e.Subscript place y) d u t l = right-ends subscript_of y d u t l
  suffix-good p (e.Slice place from to) d u t l = slice-ends from to d u t l
  suffix-good p (e.Field place name) d u t l = answer-ends (o.field_answer p.declarations name.name u) t l
  suffix-good p (e.TransitiveClosure place) d u t l = answer-ends (closure_of u) t l
  suffix-good p (e.ReflexiveClosure place) d u t l = answer-ends (reflexive_closure_of u) t l

  pub suffixes-good : (p : Program) (xs : List Suffix) → AreGood (o.suffixes p xs)
  suffixes-good p [] = tt
  suffixes-good p (x ∷ xs) = (suffix-good p (out-Suffix x), suffixes-good p xs)

  -- Exceptions.

  pub fallen_back-ends : (b : Exp) (d : ℕ) (r : Outcome) → IsEnd r → S (fallen_back b d r)
  fallen_back-ends b d (Thr v) e t l = either-well IsEnd same s (is_missing v) _ _ (value_of-ends b d t l) (tt, l)
  fallen_back-ends b d r e t l = (e, l)
