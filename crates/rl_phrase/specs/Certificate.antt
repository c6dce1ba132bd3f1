-- A test that computes, of tables without left recursion.
use Rattle.std.specs.Prelude.{◌≡◌, ℕ, zero, suc, ◌+◌, Bool, true, false, cond, nat_lt, ◌&&◌, List, [], ◌∷◌, get_or}
use Rattle.rl_phrase.specs.declared.table.Rule.{Rule}
use Rattle.rl_phrase.specs.declared.table.Form.{Form}
use Rattle.rl_phrase.specs.declared.table.Form.TheVariants.{Term, Link, Named, Seq, Choice, Star, Plus, Opt, Not}

abbrev pub if_true : Bool → Bool → Bool
if_true a b = cond a b true

-- for each row whether it can take nothing, and a number that is greater than that of each row with which it may begin
module _ (empty : ℕ → Bool) (rank : ℕ → ℕ) where
  abbrev pub fronts_fall : (row first count : ℕ) → Bool
  fronts_fall row first zero = true
  fronts_fall row first (suc count) = nat_lt (rank first) (rank row) && if_true (empty first) (fronts_fall row (first + 1) count)

  abbrev pub all_empty : (first count : ℕ) → Bool
  all_empty first zero = true
  all_empty first (suc count) = empty first && all_empty (first + 1) count

  abbrev pub choices_fall : (row first count : ℕ) → Bool
  choices_fall row first zero = true
  choices_fall row first (suc count) = (nat_lt (rank first) (rank row) && if_true (empty first) (empty row)) && choices_fall row (first + 1) count

  abbrev pub form_fits : ℕ → Form → (first count : ℕ) → Bool
  form_fits row (Term kind) first count = true
  form_fits row Link first count = nat_lt (rank first) (rank row) && if_true (empty first) (empty row)
  form_fits row Choice first count = choices_fall row first count
  form_fits row Named first count = fronts_fall row first count && if_true (all_empty first count) (empty row)
  form_fits row Seq first count = fronts_fall row first count && if_true (all_empty first count) (empty row)
  form_fits row Plus first count = fronts_fall row first count && if_true (all_empty first count) (empty row)
  form_fits row Star first count = fronts_fall row first count && empty row
  form_fits row Opt first count = fronts_fall row first count && empty row
  form_fits row Not first count = fronts_fall row first count && empty row

  abbrev pub table_fits : ℕ → List Rule → Bool
  table_fits row [] = true
  table_fits row (rule ∷ rules) = form_fits row rule.form rule.first rule.count && table_fits (row + 1) rules

-- the two lists, which have an item for each row, pass the test
abbrev pub IsCertificate : List Rule → List Bool → List ℕ → Type 0
IsCertificate rules empties ranks = table_fits (λ row. get_or empties row false) (λ row. get_or ranks row 0) 0 rules ≡ true
