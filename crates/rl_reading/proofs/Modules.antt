-- Rules of modules and declarations.
use Rattle.std.specs.Prelude.{Some, None, codes}
use Rattle.std.proofs.Common.{inl, inr}
use Rattle.rl_phrase_table.specs.Grammar.{modules}
use Rattle.rl_phrase_table.specs.declared.rules.TheConstants as rule
use Rattle.rl_forms.specs.Part.{part_at}
use Rattle.rl_forms.specs.Words.{behind_word}
use Rattle.rl_reader.specs.Node.{form_of_rule}
use Rattle.rl_expression_forms.specs.Rule.{expression_form, operation_of, value_of, other_form}
use Rattle.rl_declaration_forms.specs.Rule.{declaration_form}
use Rattle.rl_pattern_forms.specs.Rule.{pattern_form}
use Rattle.rl_statement_forms.specs.Rule as st
use Rattle.rl_reading.proofs.Roles.{QualifiedNames, Declarations, Variants, Fields, Types}
use Rattle.rl_reading.proofs.Derivations.{IsKnown}
use Rattle.rl_reading.proofs.Facts as is
use Rattle.rl_declaration_forms.specs.Declaration.{qualified_name_of, import_of}
use Rattle.rl_declaration_forms.specs.Constructor.{data_of, variant_of}
use Rattle.rl_declaration_forms.specs.Field.{named_field_of}
use Rattle.rl_declaration_forms.specs.Function.{global_of}
use Rattle.rl_declaration_forms.specs.TypeForm.{type_of}

pub qualified_name : IsKnown rule.QUALIFIED_NAME QualifiedNames (is.says_in modules (codes "QName"))
unfolding form_of_rule expression_form operation_of value_of other_form pattern_form st.statement_form st.statement_of st.other_form declaration_form qualified_name_of
qualified_name place (id, (rest, end)) = tt

pub top : IsKnown rule.TOP_LEVEL Declarations (is.says_in modules (codes "Top"))
top place (inl x, end) = tt
top place (inr (inl x), end) = tt
top place (inr (inr (inl x)), end) = tt
top place (inr (inr (inr (inl x))), end) = tt
top place (inr (inr (inr (inr (inl x)))), end) = tt
top place (inr (inr (inr (inr (inr none)))), end) = absurd none

pub imported : IsKnown rule.IMPORT Declarations (is.says_in modules (codes "Import"))
unfolding form_of_rule expression_form operation_of value_of other_form pattern_form st.statement_form st.statement_of st.other_form declaration_form import_of
imported place (inl word, (name, (semicolon, end))) = tt
imported place (inr (inl word), (name, (semicolon, end))) = tt
imported place (inr (inr none), rest) = absurd none

pub data_definition : IsKnown rule.DATA_DEFINITION Declarations (is.says_in modules (codes "DataDef"))
unfolding form_of_rule expression_form operation_of value_of other_form pattern_form st.statement_form st.statement_of st.other_form declaration_form data_of
data_definition place (None, (data_word, (id, rest))) = tt
data_definition place (Some (public, end), (data_word, (id, rest))) = tt

pub variant : IsKnown rule.VARIANT Variants (is.says_in modules (codes "Variant"))
unfolding form_of_rule expression_form operation_of value_of other_form pattern_form st.statement_form st.statement_of st.other_form declaration_form variant_of part_at
variant place (id, rest) = tt

pub field : IsKnown rule.FIELD Fields (is.says_in modules (codes "Field"))
unfolding form_of_rule expression_form operation_of value_of other_form pattern_form st.statement_form st.statement_of st.other_form declaration_form named_field_of part_at
field place (ty, (None, end)) = tt
field place (ty, (Some (id, end2), end)) = tt

pub global : IsKnown rule.GLOBAL Declarations (is.says_in modules (codes "Global"))
unfolding form_of_rule expression_form operation_of value_of other_form pattern_form st.statement_form st.statement_of st.other_form declaration_form global_of part_at behind_word
global place (None, (ty, (id, (equals, (x, rest))))) = simp ((is.is_expression x).1) tt
global place (Some (inl word, end), (ty, (id, (equals, (x, rest))))) = simp ((is.is_expression x).1) tt
global place (Some (inr (inl word), end), (ty, (id, (equals, (x, rest))))) = simp ((is.is_expression x).1) tt
global place (Some (inr (inr none), end), rest) = absurd none

pub type : IsKnown rule.TYPE Types (is.says_in modules (codes "Type"))
unfolding form_of_rule expression_form operation_of value_of other_form pattern_form st.statement_form st.statement_of st.other_form declaration_form type_of
type place (inl (inl word, (opening, (ty, (close, end2)))), end) = tt
type place (inl (inr (inl word), (opening, (ty, (close, end2)))), end) = tt
type place (inl (inr (inr none), rest), end) = absurd none
type place (inr (inl (word, (opening, (key, (comma, (value, (close, end2))))))), end) = tt
type place (inr (inr (inl (inl word, rest))), end) = tt
type place (inr (inr (inl (inr (inl word), rest))), end) = tt
type place (inr (inr (inl (inr (inr (inl word)), rest))), end) = tt
type place (inr (inr (inl (inr (inr (inr none)), rest))), end) = absurd none
type place (inr (inr (inr (inl word))), end) = tt
type place (inr (inr (inr (inr (inl word)))), end) = tt
type place (inr (inr (inr (inr (inr (inl word))))), end) = tt
type place (inr (inr (inr (inr (inr (inr (inl word)))))), end) = tt
type place (inr (inr (inr (inr (inr (inr (inr (inl word))))))), end) = tt
type place (inr (inr (inr (inr (inr (inr (inr (inr (inl word)))))))), end) = tt
type place (inr (inr (inr (inr (inr (inr (inr (inr (inr (inl word))))))))), end) = tt
type place (inr (inr (inr (inr (inr (inr (inr (inr (inr (inr (none)))))))))), end) = absurd none
