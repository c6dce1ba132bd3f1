-- What outcomes that give trees are made of.
use Rattle.std.proofs.Common.{◌≡◌, ℕ, ◌+◌, ◌==◌, ◌&&◌, Bool, true, false, nat_eq, Option, Some, None, refl, ap, ◌∙◌, ◌⊎◌, inl, inr}
use Rattle.std.specs.Prelude.{slice_get}
use Rattle.std.proofs.lemmas.Bool.{eqb-true}
use Rattle.rl_tokens.specs.Token as lexed
use Rattle.rl_phrase.specs.Terminals.{Tokens, is_terminal}
use Rattle.rl_phrase.specs.declared.table.Rule.{Rule}
use Rattle.rl_phrase.specs.declared.table.Form.{Form}
use Rattle.rl_phrase.specs.declared.table.Form.TheVariants.{Term, Link, Named, Seq, Choice, Star, Plus, Opt, Not}
use Rattle.rl_phrase.specs.Tree.{Trees, Token, none, ◌then◌, only}
use Rattle.rl_phrase.specs.Phr.{Outcome, Fails, Gives, Meaning, after, and_then, or_else, optional, again, negated, named, node_of, in_turn, terminal, of_form, of_rule}
use Rattle.rl_reading.proofs.Rows.{is_term_form, is_term, is_link_form, is_link, is_form, is_group, first_of, is_named_form, is_rule_row}

pub record Both (first : Option Outcome) (go : ℕ → Option Outcome) (trees : Trees) (next : ℕ) : Type 0 where
  pub front : Trees
  pub between : ℕ
  pub front_far : ℕ
  pub behind : Trees
  pub behind_far : ℕ
  pub first_gives : first ≡ Some (Gives front between front_far)
  pub go_gives : go between ≡ Some (Gives behind next behind_far)
  pub are : trees ≡ front then behind

after_gives : (us : Trees) (f : ℕ) (o : Option Outcome) (trees : Trees) (next far : ℕ) → after us f o ≡ Some (Gives trees next far)
    → (behind : Trees) × (behind_far : ℕ) × (o ≡ Some (Gives behind next behind_far)) × (trees ≡ us then behind)
after_gives us f None trees next far e = absurd cc
after_gives us f (Some (Fails g)) trees next far e = absurd cc
after_gives us f (Some (Gives vs n g)) trees next far e = (vs, g, cc, cc)

pub and_then_gives : (o : Option Outcome) (go : ℕ → Option Outcome) (trees : Trees) (next far : ℕ) → and_then o go ≡ Some (Gives trees next far) → Both o go trees next
and_then_gives None go trees next far e = absurd cc
and_then_gives (Some (Fails f)) go trees next far e = absurd cc
and_then_gives (Some (Gives us n f)) go trees next far e =
    let rest = after_gives us f (go n) trees next far e in
    record { front = us; between = n; front_far = f; behind = rest.0; behind_far = rest.1; first_gives = refl; go_gives = rest.2; are = rest.3 }

-- the first, or the other
abbrev pub Either : (first other : Option Outcome) (trees : Trees) (next : ℕ) → Type 0
Either first other trees next = ((f : ℕ) × (first ≡ Some (Gives trees next f))) ⊎ ((f : ℕ) × (other ≡ Some (Gives trees next f)))

other_gives : (f : ℕ) (o : Option Outcome) (trees : Trees) (next far : ℕ) → after none f o ≡ Some (Gives trees next far) → (g : ℕ) × (o ≡ Some (Gives trees next g))
other_gives f None trees next far e = absurd cc
other_gives f (Some (Fails g)) trees next far e = absurd cc
other_gives f (Some (Gives vs n g)) trees next far e = (g, cc)

pub or_else_gives : (first other : Option Outcome) (trees : Trees) (next far : ℕ) → or_else first other ≡ Some (Gives trees next far) → Either first other trees next
or_else_gives None other trees next far e = absurd cc
or_else_gives (Some (Fails f)) other trees next far e = inr (other_gives f other trees next far e)
or_else_gives (Some (Gives us n f)) other trees next far e = inl (far, e)

-- nothing, or what succeeded
pub optional_gives : (token : ℕ) (o : Option Outcome) (trees : Trees) (next far : ℕ) → optional token o ≡ Some (Gives trees next far)
    → (trees ≡ none) ⊎ ((f : ℕ) × (o ≡ Some (Gives trees next f)))
optional_gives token None trees next far e = absurd cc
optional_gives token (Some (Fails f)) trees next far e = inl cc
optional_gives token (Some (Gives us n f)) trees next far e = inr (f, cc)

again_by : (b : Bool) (same : ℕ → Option Outcome) (token next : ℕ) (trees : Trees) (end far : ℕ) → nat_eq next token ≡ b → again same token next ≡ Some (Gives trees end far)
    → (trees ≡ none) ⊎ ((f : ℕ) × (same next ≡ Some (Gives trees end f)))
again_by true same token next trees end far b e =
    let e' : Some (Gives none next 0) ≡ Some (Gives trees end far) = rw b at e in
    inl cc
again_by false same token next trees end far b e =
    let e' : optional next (same next) ≡ Some (Gives trees end far) = rw b at e in
    optional_gives next (same next) trees end far e'

pub again_gives : (same : ℕ → Option Outcome) (token next : ℕ) (trees : Trees) (end far : ℕ) → again same token next ≡ Some (Gives trees end far)
    → (trees ≡ none) ⊎ ((f : ℕ) × (same next ≡ Some (Gives trees end f)))
again_gives same token next trees end far e = again_by (nat_eq next token) same token next trees end far refl e

pub negated_gives : (token : ℕ) (o : Option Outcome) (trees : Trees) (next far : ℕ) → negated token o ≡ Some (Gives trees next far) → trees ≡ none
negated_gives token None trees next far e = absurd cc
negated_gives token (Some (Fails f)) trees next far e = cc
negated_gives token (Some (Gives us n f)) trees next far e = absurd cc

pub named_gives : (rule from : ℕ) (o : Option Outcome) (trees : Trees) (next far : ℕ) → named rule from o ≡ Some (Gives trees next far)
    → (parts : Trees) × (to : ℕ) × (f : ℕ) × (o ≡ Some (Gives parts to f)) × (trees ≡ only (node_of rule from to parts))
named_gives rule from None trees next far e = absurd cc
named_gives rule from (Some (Fails f)) trees next far e = absurd cc
named_gives rule from (Some (Gives us n f)) trees next far e = (us, n, f, refl, cc)

terminal_by : (kind token : ℕ) (t : lexed.Token) (b : Bool) (trees : Trees) (next far : ℕ) → is_terminal t kind ≡ b → Some (terminal kind token (Some t)) ≡ Some (Gives trees next far)
    → (is_terminal t kind ≡ true) × (trees ≡ only (Token token))
terminal_by kind token t true trees next far b e =
    let e' : Some (Gives (only (Token token)) (token + 1) 0) ≡ Some (Gives trees next far) = rw b at e in
    (b, cc)
terminal_by kind token t false trees next far b e =
    let e' : Some (Fails token) ≡ Some (Gives trees next far) = rw b at e in
    absurd cc

pub terminal_gives : (kind token : ℕ) (o : Option lexed.Token) (trees : Trees) (next far : ℕ) → Some (terminal kind token o) ≡ Some (Gives trees next far)
    → (t : lexed.Token) × (o ≡ Some t) × (is_terminal t kind ≡ true) × (trees ≡ only (Token token))
terminal_gives kind token None trees next far e = absurd cc
terminal_gives kind token (Some t) trees next far e =
    let found = terminal_by kind token t (is_terminal t kind) trees next far refl e in
    (t, refl, found.0, found.1)

nat_same : (a b : ℕ) → (a == b) ≡ true → a ≡ b
nat_same a b e = eqb-true a b e

pub both_true : (a b : Bool) → (a && b) ≡ true → (a ≡ true) × (b ≡ true)
both_true true b e = (refl, e)
both_true false b e = absurd cc

-- What a row is that the table has for an expression.
module _ (tokens : Tokens) (row_at : Meaning) (row token : ℕ) where
  term_form : (number : ℕ) (form : Form) (first count : ℕ) → is_term_form number form ≡ true → of_form tokens row_at row form first count token ≡ Some (terminal number token (slice_get tokens token))
  term_form number (Term kind) first count e = ap (λ k. Some (terminal k token (slice_get tokens token))) (nat_same kind number e)
  term_form number Link first count e = absurd cc
  term_form number Named first count e = absurd cc
  term_form number Seq first count e = absurd cc
  term_form number Choice first count e = absurd cc
  term_form number Star first count e = absurd cc
  term_form number Plus first count e = absurd cc
  term_form number Opt first count e = absurd cc
  term_form number Not first count e = absurd cc

  pub term_row : (number : ℕ) (o : Option Rule) → is_term number o ≡ true → of_rule tokens row_at row o token ≡ Some (terminal number token (slice_get tokens token))
  term_row number None e = absurd cc
  term_row number (Some rule) e = term_form number rule.form rule.first rule.count e

  link_form : (form : Form) (first count : ℕ) → is_link_form form ≡ true → of_form tokens row_at row form first count token ≡ row_at first token
  link_form Link first count e = refl
  link_form (Term kind) first count e = absurd cc
  link_form Named first count e = absurd cc
  link_form Seq first count e = absurd cc
  link_form Choice first count e = absurd cc
  link_form Star first count e = absurd cc
  link_form Plus first count e = absurd cc
  link_form Opt first count e = absurd cc
  link_form Not first count e = absurd cc

  pub link_row : (start : ℕ) (o : Option Rule) → is_link start o ≡ true → of_rule tokens row_at row o token ≡ row_at start token
  link_row start None e = absurd cc
  link_row start (Some rule) e =
      let both = both_true (is_link_form rule.form) (rule.first == start) e in
      link_form rule.form rule.first rule.count both.0 ∙ ap (λ r. row_at r token) (nat_same rule.first start both.1)

  same_form : (form found : Form) (first count : ℕ) → is_form form found ≡ true → of_form tokens row_at row found first count token ≡ of_form tokens row_at row form first count token
  same_form Seq Seq first count e = refl
  same_form Choice Choice first count e = refl
  same_form Star Star first count e = refl
  same_form Plus Plus first count e = refl
  same_form Opt Opt first count e = refl
  same_form Not Not first count e = refl
  same_form _ _ first count e = absurd cc

  pub group_row : (form : Form) (parts : ℕ) (o : Option Rule) → is_group form parts o ≡ true → of_rule tokens row_at row o token ≡ of_form tokens row_at row form (first_of o) parts token
  group_row form parts None e = absurd cc
  group_row form parts (Some rule) e =
      let both = both_true (is_form form rule.form) (rule.count == parts) e in
      same_form form rule.form rule.first rule.count both.0 ∙ ap (λ n. of_form tokens row_at row form rule.first n token) (nat_same rule.count parts both.1)

  named_form : (form : Form) (first count : ℕ) → is_named_form form ≡ true → of_form tokens row_at row form first count token ≡ named row token (in_turn row_at first count token)
  named_form Named first count e = refl
  named_form (Term kind) first count e = absurd cc
  named_form Link first count e = absurd cc
  named_form Seq first count e = absurd cc
  named_form Choice first count e = absurd cc
  named_form Star first count e = absurd cc
  named_form Plus first count e = absurd cc
  named_form Opt first count e = absurd cc
  named_form Not first count e = absurd cc

  pub rule_row : (parts : ℕ) (o : Option Rule) → is_rule_row parts o ≡ true → of_rule tokens row_at row o token ≡ named row token (in_turn row_at (first_of o) parts token)
  rule_row parts None e = absurd cc
  rule_row parts (Some rule) e =
      let both = both_true (is_named_form rule.form) (rule.count == parts) e in
      named_form rule.form rule.first rule.count both.0 ∙ ap (λ n. named row token (in_turn row_at rule.first n token)) (nat_same rule.count parts both.1)
