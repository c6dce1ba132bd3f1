-- The rules of functions and of syntax definitions.
use Rattle.std.specs.Prelude.{◌≡◌, ◌||◌, true, false, List, [], ◌∷◌, ◌++◌, Option, Some, None, refl, codes, flat_map}
use Rattle.std.proofs.Common.{inl, inr, ap, sym, subst, append_assoc, ◌∙◌, ◌⊎◌}
use Rattle.rl_syntax.specs.declared.identifier.Identifier.{Identifier}
use Rattle.std.specs.Option.{option_map}
use Rattle.rl_base.specs.declared.place.Place.{Place}
use Rattle.rl_syntax.specs.declared.declaration.Decl.{Decl}
use Rattle.rl_syntax.specs.declared.expression.Exp.{Exp}
use Rattle.rl_syntax.specs.declared.fragment.Concrete.{Concrete}
use Rattle.rl_tokens.specs.declared.terminal.TheConstants as terminal
use Rattle.rl_phrase_table.specs.Expression.{Parts, only, in_turn, word, ◌·◌, ◌*}
use Rattle.rl_phrase_table.specs.Names as names
use Rattle.rl_phrase_table.specs.Grammar.{modules, syntax_definitions}
use Rattle.rl_phrase_table.specs.declared.rules.TheConstants as rule
use Rattle.rl_forms.specs.declared.form.Form.{Form}
use Rattle.rl_forms.specs.declared.form.Form.TheVariants as f
use Rattle.rl_forms.specs.Part.{first_in, last_in, given, or_else, part_at}
use Rattle.rl_forms.specs.Declarations.{as_declaration, as_type}
use Rattle.rl_forms.specs.Names.{as_name}
use Rattle.rl_forms.specs.Words.{has_word, behind_word}
use Rattle.rl_reader.specs.Node.{form_of_rule, form_or_unknown}
use Rattle.rl_expression_forms.specs.Rule.{expression_form, operation_of, value_of, other_form}
use Rattle.rl_declaration_forms.specs.Rule.{declaration_form}
use Rattle.rl_declaration_forms.specs.Function.{body_of, function_of, valued_body}
use Rattle.rl_pattern_forms.specs.Rule.{pattern_form}
use Rattle.rl_statement_forms.specs.Rule as st
use Rattle.rl_production_forms.specs.Rule as pr
use Rattle.rl_production_forms.specs.Definition.{definition_of}
use Rattle.rl_reading.proofs.Roles.{There, Declarations, expression_said}
use Rattle.rl_reading.proofs.Derivations.{Item, Leaf, Phrase, IsKnown, DerivesAll, items_all, forms_in, optional_items}
use Rattle.rl_reading.proofs.Facts as is
use Rattle.rl_reading.proofs.Sections as section

-- what follows from three parts that are there
three : {A B C : Type 0} (a : Option A) (b : Option B) (c : Option C) (made : A → B → C → Decl) → There a → There b → There c
    → There (given a (λ x. given b (λ y. given c (λ z. Some (made x y z)))))
three (Some x) (Some y) (Some z) made h i j = tt
three None b c made h i j = absurd h
three (Some x) None c made h i j = absurd i
three (Some x) (Some y) None made h i j = absurd j

-- a declaration that is there is a form
declared : (o : Option Decl) (other : Option Form) (place : Place) → There o → There (as_declaration (form_or_unknown (or_else (option_map f.Declaration o) other) place))
declared (Some declaration) other place h = tt
declared None other place h = absurd h

declared_last : (o : Option Decl) (place : Place) → There o → There (as_declaration (form_or_unknown (option_map f.Declaration o) place))
declared_last (Some declaration) place h = tt
declared_last None place h = absurd h

function_known : (place : Place) (parts : List Form) → There (first_in as_type parts) → There (first_in as_name parts) → There (body_of parts)
    → There (as_declaration (form_or_unknown (form_of_rule rule.FUNCTION place parts) place))
unfolding form_of_rule expression_form operation_of value_of other_form pattern_form st.statement_form st.statement_of st.other_form declaration_form function_of
function_known place parts h i j = declared _ _ place (three (first_in as_type parts) (first_in as_name parts) (body_of parts) _ h i j)

abbrev Parameters : Parts
Parameters = in_turn (names.Pat · (word "," · names.Pat) *)

abbrev MoreParameters : Parts
MoreParameters = in_turn (word "," · names.Pat)

more_has_none : (derived : DerivesAll MoreParameters) → has_word terminal.EQUALS (forms_in (items_all MoreParameters derived)) ≡ false
more_has_none (comma, (p, end)) = simp (is.no_word_pattern terminal.EQUALS p) refl

parameters_have_none : (parameters : Option (DerivesAll Parameters)) → has_word terminal.EQUALS (forms_in (optional_items (items_all Parameters) parameters)) ≡ false
parameters_have_none None = refl
parameters_have_none (Some (p, (ds, end))) =
    simp (is.no_word_pattern terminal.EQUALS p, section.passes_section terminal.EQUALS (items_all MoreParameters) more_has_none ds []) refl

statement_has_none : (derived : DerivesAll (only names.Stat)) → has_word terminal.EQUALS (forms_in (items_all (only names.Stat) derived)) ≡ false
statement_has_none (x, end) = ap (λ b. b || false) (is.no_word_statement terminal.EQUALS x)

-- What stands before a body: no `=`.
abbrev Heads : List Item → Type 0
Heads front = has_word terminal.EQUALS (forms_in front) ≡ false

equals_is_found : (equals : Place) (rest : List Form) → behind_word terminal.EQUALS (f.Word equals 9 ∷ rest) ≡ rest
unfolding behind_word
equals_is_found equals rest = refl

-- a value behind it
value_there : (front : List Item) → Heads front → (equals : Place) (x : Exp ⊎ Concrete) (rest : List Item)
    → There (body_of (forms_in (front ++ Leaf (f.Word equals 9) ∷ Phrase (expression_said x) ∷ rest)))
unfolding body_of valued_body part_at
value_there front h equals x rest =
    let here : List Item = Leaf (f.Word equals 9) ∷ Phrase (expression_said x) ∷ rest in
    let has : has_word terminal.EQUALS (forms_in (front ++ here)) ≡ true = section.passes terminal.EQUALS front here h in
    let found : behind_word terminal.EQUALS (forms_in (front ++ here)) ≡ expression_said x ∷ forms_in rest = section.behind terminal.EQUALS front here h ∙ equals_is_found equals (expression_said x ∷ forms_in rest) in
    simp (has, found, (is.is_expression x).1) tt

-- or statements
statements_there : (parts : List Item) → Heads parts → There (body_of (forms_in parts))
unfolding body_of
statements_there parts h = simp (h) tt

heads_append : (front behind : List Item) → Heads front → Heads behind → Heads (front ++ behind)
heads_append front behind h k = section.passes terminal.EQUALS front behind h ∙ k

-- The parts of a function: its modifiers, type and name (`front`), its parameters, and its body.
abbrev parts_of : (front : List Item) → Option (DerivesAll Parameters) → (closing : Place) → (body : List Item) → List Item
parts_of front parameters closing body = front ++ (optional_items (items_all Parameters) parameters ++ Leaf (f.Word closing 13) ∷ body)

regrouped : (front : List Item) (parameters : Option (DerivesAll Parameters)) (closing : Place) (body : List Item)
    → parts_of front parameters closing body ≡ (front ++ (optional_items (items_all Parameters) parameters ++ Leaf (f.Word closing 13) ∷ [])) ++ body
regrouped front parameters closing body =
    let s : List Item = optional_items (items_all Parameters) parameters in
    sym (append_assoc front (s ++ Leaf (f.Word closing 13) ∷ []) body ∙ ap (λ xs. front ++ xs) (append_assoc s (Leaf (f.Word closing 13) ∷ []) body))

front_heads : (front : List Item) → Heads front → (parameters : Option (DerivesAll Parameters)) (closing : Place) → Heads (front ++ (optional_items (items_all Parameters) parameters ++ Leaf (f.Word closing 13) ∷ []))
front_heads front h parameters closing =
    heads_append front _ h (heads_append (optional_items (items_all Parameters) parameters) (Leaf (f.Word closing 13) ∷ []) (parameters_have_none parameters) refl)

with_value : (front : List Item) → Heads front → (parameters : Option (DerivesAll Parameters)) (closing equals : Place) (x : Exp ⊎ Concrete) (rest : List Item)
    → There (body_of (forms_in (parts_of front parameters closing (Leaf (f.Word equals 9) ∷ Phrase (expression_said x) ∷ rest))))
with_value front h parameters closing equals x rest =
    subst (λ items. There (body_of (forms_in items))) (sym (regrouped front parameters closing (Leaf (f.Word equals 9) ∷ Phrase (expression_said x) ∷ rest)))
    (value_there (front ++ (optional_items (items_all Parameters) parameters ++ Leaf (f.Word closing 13) ∷ [])) (front_heads front h parameters closing) equals x rest)

with_statements : (front : List Item) → Heads front → (parameters : Option (DerivesAll Parameters)) (closing opening : Place) (ss : List (DerivesAll (only names.Stat))) (ending : Place)
    → There (body_of (forms_in (parts_of front parameters closing (Leaf (f.Word opening 18) ∷ ((flat_map (items_all (only names.Stat)) ss ++ Leaf (f.Word ending 19) ∷ []) ++ [])))))
with_statements front h parameters closing opening ss ending =
    let body : List Item = (flat_map (items_all (only names.Stat)) ss ++ Leaf (f.Word ending 19) ∷ []) ++ [] in
    let none : Heads body =
    ap (λ items. has_word terminal.EQUALS (forms_in items)) (section.and_nothing (flat_map (items_all (only names.Stat)) ss ++ Leaf (f.Word ending 19) ∷ []))
    ∙ section.passes_section terminal.EQUALS (items_all (only names.Stat)) statement_has_none ss (Leaf (f.Word ending 19) ∷ []) in
    let all : Heads ((front ++ (optional_items (items_all Parameters) parameters ++ Leaf (f.Word closing 13) ∷ [])) ++ Leaf (f.Word opening 18) ∷ body) =
    heads_append (front ++ (optional_items (items_all Parameters) parameters ++ Leaf (f.Word closing 13) ∷ [])) (Leaf (f.Word opening 18) ∷ body) (front_heads front h parameters closing) none in
    subst (λ items. There (body_of (forms_in items))) (sym (regrouped front parameters closing (Leaf (f.Word opening 18) ∷ body)))
    (statements_there ((front ++ (optional_items (items_all Parameters) parameters ++ Leaf (f.Word closing 13) ∷ [])) ++ Leaf (f.Word opening 18) ∷ body) all)

pub function : IsKnown rule.FUNCTION Declarations (is.says_in modules (codes "Fun"))
function place (None, (None, (ty, (id, (opening, (parameters, (closing, (inl (equals, (x, rest)), end)))))))) =
    function_known place _ tt tt (with_value (Phrase (f.Type ty) ∷ Leaf (f.Name id) ∷ Leaf (f.Word opening 11) ∷ []) refl parameters closing equals x _)
function place (None, (None, (ty, (id, (opening, (parameters, (closing, (inr (inl (brace, (ss, (ending, end3)))), end)))))))) =
    function_known place _ tt tt (with_statements (Phrase (f.Type ty) ∷ Leaf (f.Name id) ∷ Leaf (f.Word opening 11) ∷ []) refl parameters closing brace ss ending)
function place (None, (None, (ty, (id, (opening, (parameters, (closing, (inr (inr none), end)))))))) = absurd none
function place (None, (Some (inl word2, end2), (ty, (id, (opening, (parameters, (closing, (inl (equals, (x, rest)), end)))))))) =
    function_known place _ tt tt (with_value (Leaf (f.Word word2 15) ∷ Phrase (f.Type ty) ∷ Leaf (f.Name id) ∷ Leaf (f.Word opening 11) ∷ []) refl parameters closing equals x _)
function place (None, (Some (inl word2, end2), (ty, (id, (opening, (parameters, (closing, (inr (inl (brace, (ss, (ending, end3)))), end)))))))) =
    function_known place _ tt tt (with_statements (Leaf (f.Word word2 15) ∷ Phrase (f.Type ty) ∷ Leaf (f.Name id) ∷ Leaf (f.Word opening 11) ∷ []) refl parameters closing brace ss ending)
function place (None, (Some (inl word2, end2), (ty, (id, (opening, (parameters, (closing, (inr (inr none), end)))))))) = absurd none
function place (None, (Some (inr (inl word2), end2), (ty, (id, (opening, (parameters, (closing, (inl (equals, (x, rest)), end)))))))) =
    function_known place _ tt tt (with_value (Leaf (f.Word word2 16) ∷ Phrase (f.Type ty) ∷ Leaf (f.Name id) ∷ Leaf (f.Word opening 11) ∷ []) refl parameters closing equals x _)
function place (None, (Some (inr (inl word2), end2), (ty, (id, (opening, (parameters, (closing, (inr (inl (brace, (ss, (ending, end3)))), end)))))))) =
    function_known place _ tt tt (with_statements (Leaf (f.Word word2 16) ∷ Phrase (f.Type ty) ∷ Leaf (f.Name id) ∷ Leaf (f.Word opening 11) ∷ []) refl parameters closing brace ss ending)
function place (None, (Some (inr (inl word2), end2), (ty, (id, (opening, (parameters, (closing, (inr (inr none), end)))))))) = absurd none
function place (Some (inl word1, end1), (None, (ty, (id, (opening, (parameters, (closing, (inl (equals, (x, rest)), end)))))))) =
    function_known place _ tt tt (with_value (Leaf (f.Word word1 7) ∷ Phrase (f.Type ty) ∷ Leaf (f.Name id) ∷ Leaf (f.Word opening 11) ∷ []) refl parameters closing equals x _)
function place (Some (inl word1, end1), (None, (ty, (id, (opening, (parameters, (closing, (inr (inl (brace, (ss, (ending, end3)))), end)))))))) =
    function_known place _ tt tt (with_statements (Leaf (f.Word word1 7) ∷ Phrase (f.Type ty) ∷ Leaf (f.Name id) ∷ Leaf (f.Word opening 11) ∷ []) refl parameters closing brace ss ending)
function place (Some (inl word1, end1), (None, (ty, (id, (opening, (parameters, (closing, (inr (inr none), end)))))))) = absurd none
function place (Some (inl word1, end1), (Some (inl word2, end2), (ty, (id, (opening, (parameters, (closing, (inl (equals, (x, rest)), end)))))))) =
    function_known place _ tt tt (with_value (Leaf (f.Word word1 7) ∷ Leaf (f.Word word2 15) ∷ Phrase (f.Type ty) ∷ Leaf (f.Name id) ∷ Leaf (f.Word opening 11) ∷ []) refl parameters closing equals x _)
function place (Some (inl word1, end1), (Some (inl word2, end2), (ty, (id, (opening, (parameters, (closing, (inr (inl (brace, (ss, (ending, end3)))), end)))))))) =
    function_known place _ tt tt (with_statements (Leaf (f.Word word1 7) ∷ Leaf (f.Word word2 15) ∷ Phrase (f.Type ty) ∷ Leaf (f.Name id) ∷ Leaf (f.Word opening 11) ∷ []) refl parameters closing brace ss ending)
function place (Some (inl word1, end1), (Some (inl word2, end2), (ty, (id, (opening, (parameters, (closing, (inr (inr none), end)))))))) = absurd none
function place (Some (inl word1, end1), (Some (inr (inl word2), end2), (ty, (id, (opening, (parameters, (closing, (inl (equals, (x, rest)), end)))))))) =
    function_known place _ tt tt (with_value (Leaf (f.Word word1 7) ∷ Leaf (f.Word word2 16) ∷ Phrase (f.Type ty) ∷ Leaf (f.Name id) ∷ Leaf (f.Word opening 11) ∷ []) refl parameters closing equals x _)
function place (Some (inl word1, end1), (Some (inr (inl word2), end2), (ty, (id, (opening, (parameters, (closing, (inr (inl (brace, (ss, (ending, end3)))), end)))))))) =
    function_known place _ tt tt (with_statements (Leaf (f.Word word1 7) ∷ Leaf (f.Word word2 16) ∷ Phrase (f.Type ty) ∷ Leaf (f.Name id) ∷ Leaf (f.Word opening 11) ∷ []) refl parameters closing brace ss ending)
function place (Some (inl word1, end1), (Some (inr (inl word2), end2), (ty, (id, (opening, (parameters, (closing, (inr (inr none), end)))))))) = absurd none
function place (Some (inr (inl word1), end1), (None, (ty, (id, (opening, (parameters, (closing, (inl (equals, (x, rest)), end)))))))) =
    function_known place _ tt tt (with_value (Leaf (f.Word word1 14) ∷ Phrase (f.Type ty) ∷ Leaf (f.Name id) ∷ Leaf (f.Word opening 11) ∷ []) refl parameters closing equals x _)
function place (Some (inr (inl word1), end1), (None, (ty, (id, (opening, (parameters, (closing, (inr (inl (brace, (ss, (ending, end3)))), end)))))))) =
    function_known place _ tt tt (with_statements (Leaf (f.Word word1 14) ∷ Phrase (f.Type ty) ∷ Leaf (f.Name id) ∷ Leaf (f.Word opening 11) ∷ []) refl parameters closing brace ss ending)
function place (Some (inr (inl word1), end1), (None, (ty, (id, (opening, (parameters, (closing, (inr (inr none), end)))))))) = absurd none
function place (Some (inr (inl word1), end1), (Some (inl word2, end2), (ty, (id, (opening, (parameters, (closing, (inl (equals, (x, rest)), end)))))))) =
    function_known place _ tt tt (with_value (Leaf (f.Word word1 14) ∷ Leaf (f.Word word2 15) ∷ Phrase (f.Type ty) ∷ Leaf (f.Name id) ∷ Leaf (f.Word opening 11) ∷ []) refl parameters closing equals x _)
function place (Some (inr (inl word1), end1), (Some (inl word2, end2), (ty, (id, (opening, (parameters, (closing, (inr (inl (brace, (ss, (ending, end3)))), end)))))))) =
    function_known place _ tt tt (with_statements (Leaf (f.Word word1 14) ∷ Leaf (f.Word word2 15) ∷ Phrase (f.Type ty) ∷ Leaf (f.Name id) ∷ Leaf (f.Word opening 11) ∷ []) refl parameters closing brace ss ending)
function place (Some (inr (inl word1), end1), (Some (inl word2, end2), (ty, (id, (opening, (parameters, (closing, (inr (inr none), end)))))))) = absurd none
function place (Some (inr (inl word1), end1), (Some (inr (inl word2), end2), (ty, (id, (opening, (parameters, (closing, (inl (equals, (x, rest)), end)))))))) =
    function_known place _ tt tt (with_value (Leaf (f.Word word1 14) ∷ Leaf (f.Word word2 16) ∷ Phrase (f.Type ty) ∷ Leaf (f.Name id) ∷ Leaf (f.Word opening 11) ∷ []) refl parameters closing equals x _)
function place (Some (inr (inl word1), end1), (Some (inr (inl word2), end2), (ty, (id, (opening, (parameters, (closing, (inr (inl (brace, (ss, (ending, end3)))), end)))))))) =
    function_known place _ tt tt (with_statements (Leaf (f.Word word1 14) ∷ Leaf (f.Word word2 16) ∷ Phrase (f.Type ty) ∷ Leaf (f.Name id) ∷ Leaf (f.Word opening 11) ∷ []) refl parameters closing brace ss ending)
function place (Some (inr (inl word1), end1), (Some (inr (inl word2), end2), (ty, (id, (opening, (parameters, (closing, (inr (inr none), end)))))))) = absurd none
function place (Some (inr (inr none), end1), rest) = absurd none
function place (None, (Some (inr (inr none), end2), rest)) = absurd none
function place (Some (inl word1, end1), (Some (inr (inr none), end2), rest)) = absurd none
function place (Some (inr (inl word1), end1), (Some (inr (inr none), end2), rest)) = absurd none

defined : (o : Option Identifier) (made : Identifier → Decl) → There o → There (given o (λ name. Some (made name)))
defined (Some name) made h = tt
defined None made h = absurd h

definition_known : (place : Place) (parts : List Form) → There (last_in as_name parts) → There (as_declaration (form_or_unknown (form_of_rule rule.SYNTAX_DEFINITION place parts) place))
unfolding form_of_rule expression_form operation_of value_of other_form pattern_form st.statement_form st.statement_of st.other_form declaration_form pr.grammar_form definition_of
definition_known place parts h = declared_last (definition_of place parts) place (defined (last_in as_name parts) _ h)

-- a name is the last one, or a later one is
last_or : (later : Option Identifier) (name : Identifier) → There (or_else later (Some name))
last_or (Some x) name = tt
last_or None name = tt

still : (later own : Option Identifier) → There later → There (or_else later own)
still (Some x) own h = tt
still None own h = absurd h

second : (place : Place) (a : Form) (name : Identifier) (rest : List Form)
    → There (as_declaration (form_or_unknown (form_of_rule rule.SYNTAX_DEFINITION place (a ∷ f.Name name ∷ rest)) place))
second place a name rest =
    definition_known place (a ∷ f.Name name ∷ rest) (still (last_in as_name (f.Name name ∷ rest)) (as_name a) (last_or (last_in as_name rest) name))

third : (place : Place) (a b : Form) (name : Identifier) (rest : List Form)
    → There (as_declaration (form_or_unknown (form_of_rule rule.SYNTAX_DEFINITION place (a ∷ b ∷ f.Name name ∷ rest)) place))
third place a b name rest =
    definition_known place (a ∷ b ∷ f.Name name ∷ rest)
    (still (last_in as_name (b ∷ f.Name name ∷ rest)) (as_name a) (still (last_in as_name (f.Name name ∷ rest)) (as_name b) (last_or (last_in as_name rest) name)))

pub syntax_definition : IsKnown rule.SYNTAX_DEFINITION Declarations (is.says_in syntax_definitions (codes "Syntax"))
syntax_definition place (inl (None, (w, end2)), (id, rest)) = second place _ id _
syntax_definition place (inl (Some (start, end3), (w, end2)), (id, rest)) = third place _ _ id _
syntax_definition place (inr (inl w), (id, rest)) = second place _ id _
syntax_definition place (inr (inr (inl w)), (id, rest)) = second place _ id _
syntax_definition place (inr (inr (inr (inl w))), (id, rest)) = second place _ id _
syntax_definition place (inr (inr (inr (inr none))), rest) = absurd none
