-- Rules of syntax definitions.
use Rattle.std.specs.Prelude.{[], ◌∷◌, Some, None, codes}
use Rattle.std.proofs.Common.{inl, inr}
use Rattle.rl_phrase_table.specs.Grammar.{syntax_definitions}
use Rattle.rl_phrase_table.specs.declared.rules.TheConstants as rule
use Rattle.rl_forms.specs.Part.{part_at}
use Rattle.rl_forms.specs.Words.{word_at}
use Rattle.rl_reader.specs.Node.{form_of_rule}
use Rattle.rl_expression_forms.specs.Rule.{expression_form, operation_of, value_of, other_form}
use Rattle.rl_declaration_forms.specs.Rule.{declaration_form}
use Rattle.rl_pattern_forms.specs.Rule.{pattern_form}
use Rattle.rl_statement_forms.specs.Rule as st
use Rattle.rl_production_forms.specs.Rule as pr
use Rattle.rl_reading.proofs.Roles.{Levels, Alternatives, Marks, Productions, Symbols, Adjoinings, Repetitions, Atoms, Classes}
use Rattle.rl_reading.proofs.Derivations.{IsKnown}
use Rattle.rl_reading.proofs.Facts as is
use Rattle.rl_production_forms.specs.Atom.{atom_of, class_of, near_of, repetition_of, separated_of, plain_repetition_of}
use Rattle.rl_production_forms.specs.Symbol.{symbol_of, negation_of, plain_of, limited_of}
use Rattle.rl_production_forms.specs.Production.{associativity_of}

pub level : IsKnown rule.LEVEL Levels (is.says_in syntax_definitions (codes "Level"))
unfolding form_of_rule expression_form operation_of value_of other_form pattern_form st.statement_form st.statement_of st.other_form declaration_form pr.grammar_form pr.part_of
level place (x, ([], end)) = is.level_plays x
level place (x, (d ∷ ds, end)) = tt

pub alternative : IsKnown rule.ALTERNATIVE Alternatives (is.says_in syntax_definitions (codes "Alt"))
unfolding form_of_rule expression_form operation_of value_of other_form pattern_form st.statement_form st.statement_of st.other_form declaration_form pr.grammar_form pr.part_of
alternative place (inl (mark, rest), end) = tt
alternative place (inr (inl (None, (x, end2))), end) = is.alternative_plays x
alternative place (inr (inl (Some (mark, end3), (x, end2))), end) = tt
alternative place (inr (inr none), end) = absurd none

pub associativity : IsKnown rule.ASSOCIATIVITY Marks (is.says_in syntax_definitions (codes "Assoc"))
unfolding form_of_rule expression_form operation_of value_of other_form pattern_form st.statement_form st.statement_of st.other_form declaration_form pr.grammar_form pr.part_of associativity_of
associativity place (inl word, end) = tt
associativity place (inr (inl word), end) = tt
associativity place (inr (inr (inl word)), end) = tt
associativity place (inr (inr (inr (inl word))), end) = tt
associativity place (inr (inr (inr (inr none))), end) = absurd none

pub production : IsKnown rule.PRODUCTION Productions (is.says_in syntax_definitions (codes "Prod"))
unfolding form_of_rule expression_form operation_of value_of other_form pattern_form st.statement_form st.statement_of st.other_form declaration_form pr.grammar_form pr.part_of
production place (None, (None, ([], end))) = tt
production place (None, (None, ((x, end2) ∷ [], end))) = is.production_plays x
production place (None, (None, ((x, end2) ∷ (y, end3) ∷ zs, end))) = tt
production place (None, (Some label, rest)) = tt
production place (Some bracket, rest) = tt

pub symbol : IsKnown rule.SYMBOL Symbols (is.says_in syntax_definitions (codes "Sym"))
unfolding form_of_rule expression_form operation_of value_of other_form pattern_form st.statement_form st.statement_of st.other_form declaration_form pr.grammar_form pr.part_of symbol_of negation_of plain_of limited_of part_at word_at
symbol place (None, (x, ([], (None, end)))) = is.symbol_plays x
symbol place (None, (x, ([], (Some (label, rest), end)))) = simp ((is.is_repetition x).1) tt
symbol place (None, (x, ((inl (inl word, rest2), end2) ∷ ds, rest))) = simp ((is.is_repetition x).1) tt
symbol place (None, (x, ((inl (inr (inl word), rest2), end2) ∷ ds, rest))) = simp ((is.is_repetition x).1) tt
symbol place (None, (x, ((inl (inr (inr none), rest2), end2) ∷ ds, rest))) = absurd none
symbol place (None, (x, ((inr (inl (word, rest2)), end2) ∷ ds, rest))) = simp ((is.is_repetition x).1) tt
symbol place (None, (x, ((inr (inr none), end2) ∷ ds, rest))) = absurd none
symbol place (Some (near, (inl word, end2)), (x, rest)) = simp ((is.is_near near).1, (is.is_repetition x).1) tt
symbol place (Some (near, (inr (inl word), end2)), (x, rest)) = simp ((is.is_near near).1, (is.is_repetition x).1) tt
symbol place (Some (near, (inr (inr none), end2)), (x, rest)) = absurd none

pub adjoining : IsKnown rule.ADJOINING Adjoinings (is.says_in syntax_definitions (codes "Near"))
unfolding form_of_rule expression_form operation_of value_of other_form pattern_form st.statement_form st.statement_of st.other_form declaration_form pr.grammar_form pr.part_of near_of part_at
adjoining place (inl x, end) = tt
adjoining place (inr (inl x), end) = tt
adjoining place (inr (inr none), end) = absurd none

pub repetition : IsKnown rule.REPETITION Repetitions (is.says_in syntax_definitions (codes "Rep"))
unfolding form_of_rule expression_form operation_of value_of other_form pattern_form st.statement_form st.statement_of st.other_form declaration_form pr.grammar_form pr.part_of repetition_of separated_of plain_repetition_of part_at word_at
repetition place (inl (opening, (x, (text, (close, (inl word, end2))))), end) = simp ((is.is_atom x).1) tt
repetition place (inl (opening, (x, (text, (close, (inr (inl word), end2))))), end) = simp ((is.is_atom x).1) tt
repetition place (inl (opening, (x, (text, (close, (inr (inr none), end2))))), end) = absurd none
repetition place (inr (inl (x, (None, end2))), end) = is.repetition_plays x
repetition place (inr (inl (x, (Some (inl word, end3), end2))), end) = simp (is.no_word_atom 18 x, (is.is_atom x).1) tt
repetition place (inr (inl (x, (Some (inr (inl word), end3), end2))), end) = simp (is.no_word_atom 18 x, (is.is_atom x).1) tt
repetition place (inr (inl (x, (Some (inr (inr (inl word)), end3), end2))), end) = simp (is.no_word_atom 18 x, (is.is_atom x).1) tt
repetition place (inr (inl (x, (Some (inr (inr (inr none)), end3), end2))), end) = absurd none
repetition place (inr (inr none), end) = absurd none

pub atom : IsKnown rule.ATOM Atoms (is.says_in syntax_definitions (codes "Atom"))
unfolding form_of_rule expression_form operation_of value_of other_form pattern_form st.statement_form st.statement_of st.other_form declaration_form pr.grammar_form pr.part_of atom_of
atom place (inl x, end) = tt
atom place (inr (inl x), end) = tt
atom place (inr (inr (inl x)), end) = tt
atom place (inr (inr (inr none)), end) = absurd none

pub characters : IsKnown rule.CHARACTERS Classes (is.says_in syntax_definitions (codes "Chars"))
unfolding form_of_rule expression_form operation_of value_of other_form pattern_form st.statement_form st.statement_of st.other_form declaration_form pr.grammar_form pr.part_of class_of
characters place (None, (x, end)) = tt
characters place (Some (bang, end2), (x, end)) = tt
