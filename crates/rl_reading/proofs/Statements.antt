-- Rules of statements.
use Rattle.std.specs.Prelude.{◌≡◌, ◌||◌, false, List, [], ◌∷◌, ◌++◌, Some, None, codes, flat_map}
use Rattle.std.proofs.Common.{inl, inr, ap, ◌∙◌}
use Rattle.rl_phrase_table.specs.Grammar.{statements}
use Rattle.rl_phrase_table.specs.declared.rules.TheConstants as rule
use Rattle.rl_tokens.specs.declared.terminal.TheConstants as terminal
use Rattle.rl_forms.specs.Part.{part_at}
use Rattle.rl_forms.specs.Words.{has_word, word_at}
use Rattle.rl_reader.specs.Node.{form_of_rule}
use Rattle.rl_expression_forms.specs.Rule.{expression_form, operation_of, value_of, other_form}
use Rattle.rl_pattern_forms.specs.Rule.{pattern_form}
use Rattle.rl_statement_forms.specs.Rule as st
use Rattle.rl_reading.proofs.Roles.{Statements, OwnStatements, Cases, Handlers, Finals, Conditions}
use Rattle.rl_reading.proofs.Derivations.{IsKnown, DerivesAll, items_all, forms_in}
use Rattle.rl_phrase_table.specs.Expression.{only}
use Rattle.rl_phrase_table.specs.Names.{Stat}
use Rattle.rl_reading.proofs.Facts as is
use Rattle.rl_reading.proofs.Sections as section
use Rattle.rl_statement_forms.specs.Control.{if_of, switch_of, loop_of, for_of, while_of, do_of, solve_of}
use Rattle.rl_statement_forms.specs.Trying.{finally_of, try_of}
use Rattle.rl_statement_forms.specs.Case.{case_of, replacement, handler_of}
use Rattle.rl_statement_forms.specs.Simple.{expression_statement_of, simple_of, word_statement_of, effect_of, return_of}
use Rattle.rl_statement_forms.specs.Assignment.{declaration_of, tuple_assignment_of, assignment_of, last_assignment}
use Rattle.rl_statement_forms.specs.RightSide.{last_right_side}

pub statement : IsKnown rule.STATEMENT Statements (is.says_in statements (codes "Stat"))
unfolding form_of_rule expression_form operation_of value_of other_form pattern_form st.statement_form st.statement_of st.other_form expression_statement_of part_at
statement place (inl (x), end) = tt
statement place (inr (inl (x)), end) = tt
statement place (inr (inr (inl (x))), end) = tt
statement place (inr (inr (inr (inl (x)))), end) = tt
statement place (inr (inr (inr (inr (inl (x))))), end) = tt
statement place (inr (inr (inr (inr (inr (inl (x)))))), end) = tt
statement place (inr (inr (inr (inr (inr (inr (inl (x, (None, end2)))))))), end) = tt
statement place (inr (inr (inr (inr (inr (inr (inl (x, (Some semicolon, end2)))))))), end) = tt
statement place (inr (inr (inr (inr (inr (inr (inr (inl (x)))))))), end) = tt
statement place (inr (inr (inr (inr (inr (inr (inr (inr (none)))))))), end) = absurd none

pub block : IsKnown rule.BLOCK OwnStatements (is.says_in statements (codes "Block"))
unfolding form_of_rule expression_form operation_of value_of other_form pattern_form st.statement_form st.statement_of st.other_form
block place (opening, rest) = tt

pub conditional : IsKnown rule.IF OwnStatements (is.says_in statements (codes "If"))
unfolding form_of_rule expression_form operation_of value_of other_form pattern_form st.statement_form st.statement_of st.other_form if_of part_at
conditional place (word, (opening, (conditions, (closing, (body, rest))))) = simp ((is.is_conditions conditions).1, (is.is_statement body).1) tt

pub switch : IsKnown rule.SWITCH OwnStatements (is.says_in statements (codes "Switch"))
unfolding form_of_rule expression_form operation_of value_of other_form pattern_form st.statement_form st.statement_of st.other_form switch_of part_at
switch place (word, (opening, (x, rest))) = simp ((is.is_expression x).1) tt

-- no arrow stands among statements
no_arrow : (ds : List (DerivesAll (only Stat))) → has_word terminal.ARROW (forms_in ((flat_map (items_all (only Stat)) ds ++ []) ++ [])) ≡ false
no_arrow ds =
    ap (λ items. has_word terminal.ARROW (forms_in items)) (section.and_nothing (flat_map (items_all (only Stat)) ds ++ []) ∙ section.and_nothing (flat_map (items_all (only Stat)) ds))
    ∙ section.section_has_none terminal.ARROW (items_all (only Stat)) one ds
  where
    one : (derived : DerivesAll (only Stat)) → has_word terminal.ARROW (forms_in (items_all (only Stat) derived)) ≡ false
    one (x, end) = ap (λ b. b || false) (is.no_word_statement terminal.ARROW x)

pub case : IsKnown rule.CASE Cases (is.says_in statements (codes "Case"))
unfolding form_of_rule expression_form operation_of value_of other_form pattern_form st.statement_form st.statement_of st.other_form case_of replacement part_at
case place (inl (word, (colon, rest)), end) = tt
case place (inr (inl (word, (p, (arrow, (x, rest))))), end) = simp ((is.is_pattern p).1, is.no_word_pattern terminal.ARROW p, (is.is_expression x).1) tt
case place (inr (inr (inr (inl (word, (p, (arrow, (x, rest))))))), end) = simp ((is.is_pattern p).1, is.no_word_pattern terminal.ARROW p, (is.is_expression x).1) tt
case place (inr (inr (inl (word, (p, (colon, (((x, end3), ds), end2)))))), end) = simp ((is.is_pattern p).1, is.no_word_pattern terminal.ARROW p, is.no_word_statement terminal.ARROW x, no_arrow ds) tt
case place (inr (inr (inr (inr (inl (word, (p, (colon, (((x, end3), ds), end2)))))))), end) = simp ((is.is_pattern p).1, is.no_word_pattern terminal.ARROW p, is.no_word_statement terminal.ARROW x, no_arrow ds) tt
case place (inr (inr (inr (inr (inr (none))))), end) = absurd none

pub loop : IsKnown rule.LOOP OwnStatements (is.says_in statements (codes "Loop"))
unfolding form_of_rule expression_form operation_of value_of other_form pattern_form st.statement_form st.statement_of st.other_form loop_of for_of while_of do_of part_at word_at
loop place (inl (word, (opening, (conditions, (closing, (body, end2))))), end) = simp ((is.is_conditions conditions).1, (is.is_statement body).1) tt
loop place (inr (inl (word, (opening, (conditions, (closing, (body, end2)))))), end) = simp ((is.is_conditions conditions).1, (is.is_statement body).1) tt
loop place (inr (inr (inl (word, (body, (word2, (opening, (conditions, rest))))))), end) = simp ((is.is_conditions conditions).1, (is.is_statement body).1) tt
loop place (inr (inr (inr (none))), end) = absurd none

pub solve : IsKnown rule.SOLVE OwnStatements (is.says_in statements (codes "Solve"))
unfolding form_of_rule expression_form operation_of value_of other_form pattern_form st.statement_form st.statement_of st.other_form solve_of part_at
solve place (word, (opening, (id, (ds, (closing, (body, end)))))) = simp (section.last_behind_three, (is.is_statement body).1) tt

pub trying : IsKnown rule.TRY OwnStatements (is.says_in statements (codes "Try"))
unfolding form_of_rule expression_form operation_of value_of other_form pattern_form st.statement_form st.statement_of st.other_form try_of part_at
trying place (word, (body, rest)) = simp ((is.is_statement body).1) tt

pub handler : IsKnown rule.CATCH Handlers (is.says_in statements (codes "Catch"))
unfolding form_of_rule expression_form operation_of value_of other_form pattern_form st.statement_form st.statement_of st.other_form handler_of part_at
handler place (word, (inl (colon, (body, end2)), end)) = simp ((is.is_statement body).1) tt
handler place (word, (inr (inl (p, (colon, (body, end2)))), end)) = simp ((is.is_pattern p).1, (is.is_statement body).1) tt
handler place (word, (inr (inr (inl (p, (colon, (body, end2))))), end)) = simp ((is.is_pattern p).1, (is.is_statement body).1) tt
handler place (word, (inr (inr (inr (none))), end)) = absurd none

pub final : IsKnown rule.FINALLY Finals (is.says_in statements (codes "Finally"))
unfolding form_of_rule expression_form operation_of value_of other_form pattern_form st.statement_form st.statement_of st.other_form finally_of part_at
final place (word, (body, end)) = simp ((is.is_statement body).1) tt

pub simple : IsKnown rule.SIMPLE_STATEMENT OwnStatements (is.says_in statements (codes "Simple"))
unfolding form_of_rule expression_form operation_of value_of other_form pattern_form st.statement_form st.statement_of st.other_form simple_of word_statement_of effect_of return_of declaration_of tuple_assignment_of assignment_of last_assignment last_right_side expression_statement_of part_at word_at
simple place (inl (word, rest), end) = tt
simple place (inr (inl (word, rest)), end) = tt
simple place (inr (inr (inl (word, (x, rest)))), end) = simp ((is.is_expression x).1) tt
simple place (inr (inr (inr (inl (word, (x, rest))))), end) = simp ((is.is_expression x).1) tt
simple place (inr (inr (inr (inr (inl (word, (x, rest)))))), end) = simp ((is.is_expression x).1) tt
simple place (inr (inr (inr (inr (inr (inl (word, rest)))))), end) = tt
simple place (inr (inr (inr (inr (inr (inr (inl (word, rest))))))), end) = tt
simple place (inr (inr (inr (inr (inr (inr (inr (inl (word, rest)))))))), end) = tt
simple place (inr (inr (inr (inr (inr (inr (inr (inr (inl (word))))))))), end) = tt
simple place (inr (inr (inr (inr (inr (inr (inr (inr (inr (inl (ty, (id, (equals, (value, end2))))))))))))), end) = simp ((is.is_right_side value).1) tt
simple place (inr (inr (inr (inr (inr (inr (inr (inr (inr (inr (inl (opening, (id, (ds, (closing, (equals, (value, end2)))))))))))))))), end) = simp (section.last_behind_two, (is.is_right_side value).1) tt
simple place (inr (inr (inr (inr (inr (inr (inr (inr (inr (inr (inr (inl (id, (ds, (inl (sign), (value, end2))))))))))))))), end) = simp (section.last_behind_one, section.last_but_one_behind_one, (is.is_right_side value).1) tt
simple place (inr (inr (inr (inr (inr (inr (inr (inr (inr (inr (inr (inl (id, (ds, (inr (inl (sign)), (value, end2))))))))))))))), end) = simp (section.last_behind_one, section.last_but_one_behind_one, (is.is_right_side value).1) tt
simple place (inr (inr (inr (inr (inr (inr (inr (inr (inr (inr (inr (inl (id, (ds, (inr (inr (inl (sign))), (value, end2))))))))))))))), end) = simp (section.last_behind_one, section.last_but_one_behind_one, (is.is_right_side value).1) tt
simple place (inr (inr (inr (inr (inr (inr (inr (inr (inr (inr (inr (inl (id, (ds, (inr (inr (inr (inl (sign)))), (value, end2))))))))))))))), end) = simp (section.last_behind_one, section.last_but_one_behind_one, (is.is_right_side value).1) tt
simple place (inr (inr (inr (inr (inr (inr (inr (inr (inr (inr (inr (inl (id, (ds, (inr (inr (inr (inr (inl (sign))))), (value, end2))))))))))))))), end) = simp (section.last_behind_one, section.last_but_one_behind_one, (is.is_right_side value).1) tt
simple place (inr (inr (inr (inr (inr (inr (inr (inr (inr (inr (inr (inl (id, (ds, (inr (inr (inr (inr (inr (inl (sign)))))), (value, end2))))))))))))))), end) = simp (section.last_behind_one, section.last_but_one_behind_one, (is.is_right_side value).1) tt
simple place (inr (inr (inr (inr (inr (inr (inr (inr (inr (inr (inr (inl (id, (ds, (inr (inr (inr (inr (inr (inr (none)))))), rest)))))))))))))), end) = absurd none
simple place (inr (inr (inr (inr (inr (inr (inr (inr (inr (inr (inr (inr (inl (inl x, rest))))))))))))), end) = tt
simple place (inr (inr (inr (inr (inr (inr (inr (inr (inr (inr (inr (inr (inl (inr x, rest))))))))))))), end) = tt
simple place (inr (inr (inr (inr (inr (inr (inr (inr (inr (inr (inr (inr (inr (none))))))))))))), end) = absurd none

pub right_side : IsKnown rule.RIGHT_SIDE Statements (is.says_in statements (codes "Rhs"))
unfolding form_of_rule expression_form operation_of value_of other_form pattern_form st.statement_form st.statement_of st.other_form st.right_side_of part_at
right_side place (inl (x), end) = tt
right_side place (inr (inl (x, (semicolon, end2))), end) = simp ((is.is_expression x).1) tt
right_side place (inr (inr (none)), end) = absurd none

pub conditions : IsKnown rule.CONDITIONS Conditions (is.says_in statements (codes "Conds"))
unfolding form_of_rule expression_form operation_of value_of other_form
conditions place (x, ([], end)) = is.conditions_play x
conditions place (x, (d ∷ ds, end)) = tt
