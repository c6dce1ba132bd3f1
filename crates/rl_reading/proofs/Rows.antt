-- Which rows of a table are an expression of the grammar.
use Rattle.std.specs.Prelude.{ℕ, ◌+◌, ◌==◌, ◌&&◌, ◌||◌, Bool, true, false, List, Option, Some, None, slice_get}
use Rattle.rl_phrase.specs.declared.table.Rule.{Rule}
use Rattle.rl_phrase.specs.declared.table.Form.{Form}
use Rattle.rl_phrase.specs.declared.table.Form.TheVariants.{Term, Link, Named, Seq, Choice, Star, Plus, Opt, Not}
use Rattle.rl_tokens.specs.Terminal.{number_of}
use Rattle.rl_phrase_table.specs.Expression.{Expression, Word, Name, Group, Parts, none, more}
use Rattle.rl_phrase_table.specs.Rows.{count, start_in}
use Rattle.rl_reading.proofs.Derivations.{Naming, OfClass, OfRule, naming_of}

abbrev pub is_term_form : ℕ → Form → Bool
is_term_form number (Term terminal) = terminal == number
is_term_form number _ = false

abbrev pub is_term : ℕ → Option Rule → Bool
is_term number None = false
is_term number (Some rule) = is_term_form number rule.form

abbrev pub is_link_form : Form → Bool
is_link_form Link = true
is_link_form _ = false

abbrev pub is_link : ℕ → Option Rule → Bool
is_link start None = false
is_link start (Some rule) = is_link_form rule.form && (rule.first == start)

-- a form that is no rule and no leaf
abbrev pub is_form : Form → Form → Bool
is_form Seq Seq = true
is_form Choice Choice = true
is_form Star Star = true
is_form Plus Plus = true
is_form Opt Opt = true
is_form Not Not = true
is_form _ _ = false

abbrev pub is_group : Form → ℕ → Option Rule → Bool
is_group form parts None = false
is_group form parts (Some rule) = is_form form rule.form && (rule.count == parts)

abbrev pub first_of : Option Rule → ℕ
first_of None = 0
first_of (Some rule) = rule.first

-- a form that stands inside a rule
abbrev pub is_inner : Form → Bool
is_inner Seq = true
is_inner Choice = true
is_inner Star = true
is_inner Plus = true
is_inner Opt = true
is_inner Not = true
is_inner _ = false

abbrev pub is_named_form : Form → Bool
is_named_form Named = true
is_named_form _ = false

-- the row of a rule
abbrev pub is_rule_row : ℕ → Option Rule → Bool
is_rule_row parts None = false
is_rule_row parts (Some rule) = is_named_form rule.form && (rule.count == parts)

-- what fails where its parts succeed gives no part
abbrev pub gives_nothing : Form → Bool
gives_nothing Not = true
gives_nothing _ = false

module _ (rules : List Rule) (starts : List (List ℕ × ℕ)) (is_rule : List ℕ → Bool) where
  abbrev pub is_naming : List ℕ → Naming → Option Rule → Bool
  is_naming name (OfClass number) row = is_term number row
  is_naming name (OfRule role) row = is_rule name && is_link (start_in starts name) row

  abbrev mutual
    pub is_at : ℕ → Expression → Bool
    is_at row (Word text) = is_term (number_of text) (slice_get rules row)
    is_at row (Name name) = is_naming name (naming_of name) (slice_get rules row)
    is_at row (Group form parts) =
        is_inner form && is_group form (count parts) (slice_get rules row) && (gives_nothing form || are_at (first_of (slice_get rules row)) parts)

    pub are_at : ℕ → Parts → Bool
    are_at row none = true
    are_at row (more part rest) = is_at row part && are_at (row + 1) rest
