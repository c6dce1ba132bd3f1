-- What a row of a table gives at a token.
use Rattle.std.specs.Prelude.{◌≡◌, ℕ, zero, suc, ◌+◌, ◌≤◌, max, nat_eq, List, Option, Some, None, if◌then◌else◌, length, slice_get}
use Rattle.rl_tokens.specs.Token as lexed
use Rattle.rl_phrase.specs.Terminals.{Tokens, is_terminal}
use Rattle.rl_phrase.specs.declared.table.Rule.{Rule}
use Rattle.rl_phrase.specs.declared.table.Form.{Form}
use Rattle.rl_phrase.specs.declared.table.Form.TheVariants.{Term, Link, Named, Seq, Choice, Star, Plus, Opt, Not}
use Rattle.rl_phrase.specs.Tree.{Tree, Trees, Token, Node, none, more, ◌then◌, only}

-- It fails, or it gives trees and the next token. `far` is the greatest token at which a terminal failed, or 0.
pub data Outcome : Type 0 where
  Fails : (far : ℕ) → Outcome
  Gives : (trees : Trees) (next far : ℕ) → Outcome

-- what a row gives at a token, if that is known
abbrev pub Meaning : Type 0
Meaning = ℕ → ℕ → Option Outcome

-- the outcome of what comes after trees
abbrev pub after : Trees → ℕ → Option Outcome → Option Outcome
after trees far None = None
after trees far (Some (Fails f)) = Some (Fails (max far f))
after trees far (Some (Gives us next f)) = Some (Gives (trees then us) next (max far f))

-- the first, and then what goes on from its next token
abbrev pub and_then : Option Outcome → (ℕ → Option Outcome) → Option Outcome
and_then None go = None
and_then (Some (Fails far)) go = Some (Fails far)
and_then (Some (Gives trees next far)) go = after trees far (go next)

-- the first, or where it fails the second
abbrev pub or_else : Option Outcome → Option Outcome → Option Outcome
or_else None other = None
or_else (Some (Fails far)) other = after none far other
or_else (Some (Gives trees next far)) other = Some (Gives trees next far)

-- each of the rows in its turn
abbrev pub in_turn : Meaning → (first count token : ℕ) → Option Outcome
in_turn row_at first zero token = Some (Gives none token 0)
in_turn row_at first (suc count) token = and_then (row_at first token) (in_turn row_at (first + 1) count)

-- the first of the rows that succeeds
abbrev pub first_of_rows : Meaning → (first count token : ℕ) → Option Outcome
first_of_rows row_at first zero token = Some (Fails 0)
first_of_rows row_at first (suc count) token = or_else (row_at first token) (first_of_rows row_at (first + 1) count token)

-- the outcome, or nothing where it fails
abbrev pub optional : ℕ → Option Outcome → Option Outcome
optional token None = None
optional token (Some (Fails far)) = Some (Gives none token far)
optional token (Some (Gives trees next far)) = Some (Gives trees next far)

-- nothing where it fails, and a failure where it succeeds
abbrev pub negated : ℕ → Option Outcome → Option Outcome
negated token None = None
negated token (Some (Fails far)) = Some (Gives none token far)
negated token (Some (Gives trees next far)) = Some (Fails far)

-- A turn, and then the same again unless that fails or the turn takes nothing.
abbrev pub again : (ℕ → Option Outcome) → (token next : ℕ) → Option Outcome
again same token next = if nat_eq next token then Some (Gives none next 0) else optional next (same next)

-- a node, but for one whose only part is a node
abbrev pub node_of : (rule from to : ℕ) → Trees → Tree
node_of rule from to (more (Node r f t ps) none) = Node r f t ps
node_of rule from to none = Node rule from to none
node_of rule from to (more (Token t) none) = Node rule from to (only (Token t))
node_of rule from to (more t (more u us)) = Node rule from to (more t (more u us))

abbrev pub named : (rule from : ℕ) → Option Outcome → Option Outcome
named rule from None = None
named rule from (Some (Fails far)) = Some (Fails far)
named rule from (Some (Gives trees to far)) = Some (Gives (only (node_of rule from to trees)) to far)

-- a terminal where the token is it
abbrev pub terminal : ℕ → ℕ → Option lexed.Token → Outcome
terminal kind token None = Fails token
terminal kind token (Some t) = if is_terminal t kind then Gives (only (Token token)) (token + 1) 0 else Fails token

-- a row of this form, where the rows have this meaning
abbrev pub of_form : Tokens → Meaning → ℕ → Form → (first count token : ℕ) → Option Outcome
of_form tokens row_at row (Term kind) first count token = Some (terminal kind token (slice_get tokens token))
of_form tokens row_at row Link first count token = row_at first token
of_form tokens row_at row Named first count token = named row token (in_turn row_at first count token)
of_form tokens row_at row Seq first count token = in_turn row_at first count token
of_form tokens row_at row Choice first count token = first_of_rows row_at first count token
of_form tokens row_at row Star first count token = optional token (and_then (in_turn row_at first count token) (again (row_at row) token))
of_form tokens row_at row Plus first count token = and_then (in_turn row_at first count token) (again (row_at row) token)
of_form tokens row_at row Opt first count token = optional token (in_turn row_at first count token)
of_form tokens row_at row Not first count token = negated token (in_turn row_at first count token)

abbrev pub of_rule : Tokens → Meaning → ℕ → Option Rule → ℕ → Option Outcome
of_rule tokens row_at row None token = Some (Fails 0)
of_rule tokens row_at row (Some rule) token = of_form tokens row_at row rule.form rule.first rule.count token

-- what a row gives, as far as n levels of rows tell
abbrev pub phr : Tokens → List Rule → ℕ → Meaning
phr tokens rules zero row token = None
phr tokens rules (suc n) row token = of_rule tokens (phr tokens rules n) row (slice_get rules row) token

-- what a row gives: what any number of levels tells that is large enough
pub record Phr (tokens : Tokens) (rules : List Rule) (row token : ℕ) (outcome : Outcome) : Type 0 where
  pub enough : ℕ
  pub tells : (n : ℕ) → enough ≤ n → phr tokens rules n row token ≡ Some outcome

-- as many levels of rows as a table without left recursion can need, where this many tokens are left
abbrev pub levels : (rows left : ℕ) → ℕ
levels rows zero = suc rows
levels rows (suc left) = levels rows left + suc rows

-- enough levels tell an outcome
abbrev pub told : Option Outcome → Outcome
told None = Fails 0
told (Some outcome) = outcome

-- what a row of a table without left recursion gives at the first token
unfoldable pub outcome_of : Tokens → List Rule → ℕ → Outcome
outcome_of tokens rules row = told (phr tokens rules (levels (length rules) (length tokens)) row 0)
