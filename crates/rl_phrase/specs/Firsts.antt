-- With which tokens rows may begin.
use Rattle.std.specs.Prelude.{◌≡◌, ◌<◌, ℕ, zero, suc, ◌+◌, ◌-◌, ◌^◌, ◌==◌, ◌||◌, ◌&&◌, nat_eq, nat_lt, Bool, true, false, cond, if◌then◌else◌, List, Option, Some, None, length, slice_get, get_or}
use Rattle.std.specs.Int.{bit_at}
use Rattle.std.specs.Int.Bits.{bit_or}
use Rattle.rl_tokens.specs.Token as lexed
use Rattle.rl_tokens.specs.declared.terminal.TheConstants.{ASSOC, BRACKET, ID, LEFT, LOWER_ID, RIGHT, START, UPPER_ID}
use Rattle.rl_phrase.specs.Terminals.{Tokens}
use Rattle.rl_phrase.specs.declared.table.Rule.{Rule}
use Rattle.rl_phrase.specs.declared.table.Form.{Form}
use Rattle.rl_phrase.specs.declared.table.Form.TheVariants.{Term, Link, Named, Seq, Choice, Star, Plus, Opt, Not}
use Rattle.rl_phrase.specs.declared.firsts.First.{First}

abbrev pub anything : First
anything = record { kinds = 2 ^ 128 - 1; may_be_empty = true }

abbrev pub bit : ℕ → ℕ
bit kind = if nat_lt kind 128 then 2 ^ kind else 0

abbrev pub is_word_terminal : ℕ → Bool
is_word_terminal terminal = (terminal == LEFT) || (terminal == RIGHT) || (terminal == ASSOC) || (terminal == BRACKET) || (terminal == START)

-- the kinds of the tokens that are the terminal
abbrev pub kinds_of_terminal : ℕ → ℕ
kinds_of_terminal terminal =
    if terminal == ID then bit_or (bit_or (bit terminal) (bit UPPER_ID)) (bit LOWER_ID)
    else (if is_word_terminal terminal then bit_or (bit terminal) (bit LOWER_ID) else bit terminal)

-- what is known of a row; nothing is known of those that are not listed
abbrev pub first_at : List First → ℕ → First
first_at firsts row = get_or firsts row anything

-- a part, and then others
abbrev pub then_first : First → First → First
then_first part others = cond part.may_be_empty (record { kinds = bit_or part.kinds others.kinds; may_be_empty = others.may_be_empty }) part

abbrev pub either : First → First → First
either a b = record { kinds = bit_or a.kinds b.kinds; may_be_empty = a.may_be_empty || b.may_be_empty }

-- parts in turn
abbrev pub first_of_parts : List First → (first count : ℕ) → First
first_of_parts firsts first zero = record { kinds = 0; may_be_empty = true }
first_of_parts firsts first (suc count) = then_first (first_at firsts first) (first_of_parts firsts (first + 1) count)

-- one of the parts
abbrev pub first_of_choice : List First → (first count : ℕ) → First
first_of_choice firsts first zero = record { kinds = 0; may_be_empty = false }
first_of_choice firsts first (suc count) = either (first_at firsts first) (first_of_choice firsts (first + 1) count)

-- parts in turn, where a row whose parts all may be empty is not known
abbrev pub unless_empty : First → First
unless_empty found = cond found.may_be_empty anything found

-- a row that may take nothing
abbrev pub or_empty : First → First
or_empty found = record { kinds = found.kinds; may_be_empty = true }

-- what a row of this form may begin with, where this is known of the rows
abbrev pub first_of_form : List First → Form → (first count : ℕ) → First
first_of_form firsts (Term kind) first count = record { kinds = kinds_of_terminal kind; may_be_empty = false }
first_of_form firsts Link first count = first_at firsts first
first_of_form firsts Named first count = unless_empty (first_of_parts firsts first count)
first_of_form firsts Seq first count = first_of_parts firsts first count
first_of_form firsts Choice first count = if nat_eq count 0 then anything else first_of_choice firsts first count
first_of_form firsts Star first count = or_empty (first_of_parts firsts first count)
first_of_form firsts Plus first count = first_of_parts firsts first count
first_of_form firsts Opt first count = or_empty (first_of_parts firsts first count)
first_of_form firsts Not first count = anything

abbrev pub first_of_rule : List First → Rule → First
first_of_rule firsts rule = first_of_form firsts rule.form rule.first rule.count

-- the first knows no more than the second
abbrev pub covers : First → First → Bool
covers a b = nat_eq (bit_or a.kinds b.kinds) a.kinds && (cond b.may_be_empty a.may_be_empty true)

abbrev pub covers_rule : List First → ℕ → Option Rule → Bool
covers_rule firsts row None = false
covers_rule firsts row (Some rule) = covers (first_at firsts row) (first_of_rule firsts rule)

abbrev pub is_covered : List Rule → List First → ℕ → Bool
is_covered rules firsts row = covers_rule firsts row (slice_get rules row)

-- each is listed of a row, and follows from what is listed
abbrev pub AreFirsts : List Rule → List First → Type 0
AreFirsts rules firsts = (row : ℕ) → row < length firsts → is_covered rules firsts row ≡ true

-- no token of this kind is among those with which the row may begin
abbrev pub LacksKind : First → ℕ → Type 0
LacksKind first kind = (kind < 128) × (bit_at first.kinds kind ≡ 0)

-- the row takes something, and the token is none with which it begins
abbrev pub CannotBegin : Tokens → List First → (row token : ℕ) → Type 0
CannotBegin tokens firsts row token =
    (t : lexed.Token) × (slice_get tokens token ≡ Some t) × ((first_at firsts row).may_be_empty ≡ false) × LacksKind (first_at firsts row) t.kind
