-- Rules of expressions.
use Rattle.std.specs.Prelude.{◌≡◌, ℕ, false, List, [], ◌∷◌, ◌++◌, Some, None, refl, codes, flat_map}
use Rattle.std.proofs.Common.{inl, inr, ap, ◌∙◌}
use Rattle.rl_phrase_table.specs.Grammar.{expressions}
use Rattle.rl_phrase_table.specs.declared.rules.TheConstants as rule
use Rattle.rl_tokens.specs.declared.terminal.TheConstants as terminal
use Rattle.rl_forms.specs.Part.{part_at}
use Rattle.rl_forms.specs.Words.{has_word, word_at, behind_word}
use Rattle.rl_reader.specs.Node.{form_of_rule}
use Rattle.rl_expression_forms.specs.Rule.{expression_form, operation_of, value_of, other_form}
use Rattle.rl_reading.proofs.Roles.{Expressions, Visits, Fragments, Suffixes, Subscripts, Strategies, Conditions, form_in, expression_said}
use Rattle.rl_reading.proofs.Derivations.{IsKnown, DerivesAll, items_all, forms_in}
use Rattle.rl_reading.proofs.Facts as is
use Rattle.rl_reading.proofs.Sections as section
use Rattle.rl_phrase_table.specs.Expression.{Parts, in_turn, word, ◌·◌}
use Rattle.rl_phrase_table.specs.Names as names
use Rattle.rl_reading.proofs.Derivations.{Item, Leaf, Phrase}
use Rattle.std.specs.Prelude.{◌==◌, ◌⊎◌}
use Rattle.rl_base.specs.declared.place.Place.{Place}
use Rattle.rl_syntax.specs.declared.expression.Exp.{Exp}
use Rattle.rl_syntax.specs.declared.fragment.Concrete.{Concrete}
use Rattle.rl_forms.specs.declared.form.Form.{Form}
use Rattle.rl_forms.specs.declared.form.Form.TheVariants as f
use Rattle.rl_expression_forms.specs.Operation.{conditional_of, binary_of, is_of, match_of}
use Rattle.rl_expression_forms.specs.Chain.{unary_of}
use Rattle.rl_expression_forms.specs.Suffix.{suffix_of, subscript_of, field_of, bounds_of, suffixed_of}
use Rattle.rl_expression_forms.specs.Literal.{primary_of}
use Rattle.rl_expression_forms.specs.Argument.{argument_of, concrete_of}
use Rattle.rl_expression_forms.specs.Visit.{visit_of, strategy_of}
use Rattle.rl_expression_forms.specs.Parenthesized.{parenthesized_of, map_comprehension_of, reducer_of, alone_of}
use Rattle.rl_expression_forms.specs.Collection.{splice_of, list_of, short_range_of, long_range_of, list_comprehension_of, set_of, set_comprehension_of}

pub expression : IsKnown rule.EXPRESSION Expressions (is.says_in expressions (codes "Exp"))
unfolding form_of_rule expression_form operation_of value_of other_form conditional_of part_at
expression place (x, (None, end)) = is.expression_plays x
expression place (x, (Some (question, (y, (None, end2))), end)) = simp ((is.is_expression x).1, (is.is_expression y).1) tt
expression place (x, (Some (question, (y, (Some (colon, (z, end3)), end2))), end)) = simp ((is.is_expression x).1, (is.is_expression y).1, (is.is_expression z).1) tt

pub implication : IsKnown rule.IMPLICATION Expressions (is.says_in expressions (codes "Imp"))
unfolding form_of_rule expression_form operation_of value_of other_form binary_of part_at word_at
implication place (x, (None, end)) = is.expression_plays x
implication place (x, (Some (inl (w), (y, end2)), end)) = simp ((is.is_expression x).1, (is.is_expression y).1) tt
implication place (x, (Some (inr (inl (w)), (y, end2)), end)) = simp ((is.is_expression x).1, (is.is_expression y).1) tt
implication place (x, (Some (inr (inr (none)), rest), end)) = absurd none

pub disjunction : IsKnown rule.DISJUNCTION Expressions (is.says_in expressions (codes "Or"))
unfolding form_of_rule expression_form operation_of value_of other_form
disjunction place (x, ([], end)) = is.expression_plays x
disjunction place (x, (d ∷ ds, end)) = tt

pub conjunction : IsKnown rule.CONJUNCTION Expressions (is.says_in expressions (codes "And"))
unfolding form_of_rule expression_form operation_of value_of other_form
conjunction place (x, ([], end)) = is.expression_plays x
conjunction place (x, (d ∷ ds, end)) = tt

pub match : IsKnown rule.MATCH Expressions (is.says_in expressions (codes "Test"))
unfolding form_of_rule expression_form operation_of value_of other_form match_of part_at word_at
match place (inl (p, (inl (w), (x, end2))), end) = simp ((is.is_pattern p).1, (is.is_expression x).1) tt
match place (inl (p, (inr (inl (w)), (x, end2))), end) = simp ((is.is_pattern p).1, (is.is_expression x).1) tt
match place (inl (p, (inr (inr (inl (w))), (x, end2))), end) = simp ((is.is_pattern p).1, (is.is_expression x).1) tt
match place (inl (p, (inr (inr (inr (none))), rest)), end) = absurd none
match place (inr (inl x), end) = is.expression_plays x
match place (inr (inr none), end) = absurd none

pub equality : IsKnown rule.EQUALITY Expressions (is.says_in expressions (codes "Cmp"))
unfolding form_of_rule expression_form operation_of value_of other_form binary_of part_at word_at
equality place (x, (None, end)) = is.expression_plays x
equality place (x, (Some (inl (w), (y, end2)), end)) = simp ((is.is_expression x).1, (is.is_expression y).1) tt
equality place (x, (Some (inr (inl (w)), (y, end2)), end)) = simp ((is.is_expression x).1, (is.is_expression y).1) tt
equality place (x, (Some (inr (inr (none)), rest), end)) = absurd none

pub comparison : IsKnown rule.COMPARISON Expressions (is.says_in expressions (codes "Rel"))
unfolding form_of_rule expression_form operation_of value_of other_form binary_of is_of part_at word_at
comparison place (x, (None, end)) = is.expression_plays x
comparison place (x, (Some (inl (inl (w), (y, end3)), end2), end)) = simp (is.no_word_expression terminal.IS x, is.no_word_expression terminal.IS y, (is.is_expression x).1, (is.is_expression y).1) tt
comparison place (x, (Some (inl (inr (inl (w)), (y, end3)), end2), end)) = simp (is.no_word_expression terminal.IS x, is.no_word_expression terminal.IS y, (is.is_expression x).1, (is.is_expression y).1) tt
comparison place (x, (Some (inl (inr (inr (inl (w))), (y, end3)), end2), end)) = simp (is.no_word_expression terminal.IS x, is.no_word_expression terminal.IS y, (is.is_expression x).1, (is.is_expression y).1) tt
comparison place (x, (Some (inl (inr (inr (inr (inl (w)))), (y, end3)), end2), end)) = simp (is.no_word_expression terminal.IS x, is.no_word_expression terminal.IS y, (is.is_expression x).1, (is.is_expression y).1) tt
comparison place (x, (Some (inl (inr (inr (inr (inr (inl (w))))), (y, end3)), end2), end)) = simp (is.no_word_expression terminal.IS x, is.no_word_expression terminal.IS y, (is.is_expression x).1, (is.is_expression y).1) tt
comparison place (x, (Some (inl (inr (inr (inr (inr (inr (inl (w)))))), (y, end3)), end2), end)) = simp (is.no_word_expression terminal.IS x, is.no_word_expression terminal.IS y, (is.is_expression x).1, (is.is_expression y).1) tt
comparison place (x, (Some (inl (inr (inr (inr (inr (inr (inr (none)))))), rest), end2), end)) = absurd none
comparison place (x, (Some (inr (inl (w, (id, end3))), end2), end)) = simp (is.no_word_expression terminal.IS x, (is.is_expression x).1) tt
comparison place (x, (Some (inr (inr none), end2), end)) = absurd none

pub sum : IsKnown rule.SUM Expressions (is.says_in expressions (codes "Add"))
unfolding form_of_rule expression_form operation_of value_of other_form
sum place (x, ([], end)) = is.expression_plays x
sum place (x, ((inl (sign), y) ∷ ds, end)) = simp ((is.is_expression x).1) tt
sum place (x, ((inr (inl (sign)), y) ∷ ds, end)) = simp ((is.is_expression x).1) tt
sum place (x, ((inr (inr (inl (sign))), y) ∷ ds, end)) = simp ((is.is_expression x).1) tt
sum place (x, ((inr (inr (inr (none))), y) ∷ ds, end)) = absurd none

pub product : IsKnown rule.PRODUCT Expressions (is.says_in expressions (codes "Mul"))
unfolding form_of_rule expression_form operation_of value_of other_form
product place (x, ([], end)) = is.expression_plays x
product place (x, ((inl (sign), y) ∷ ds, end)) = simp ((is.is_expression x).1) tt
product place (x, ((inr (inl (sign)), y) ∷ ds, end)) = simp ((is.is_expression x).1) tt
product place (x, ((inr (inr (inl (sign))), y) ∷ ds, end)) = simp ((is.is_expression x).1) tt
product place (x, ((inr (inr (inr (none))), y) ∷ ds, end)) = absurd none

pub composition : IsKnown rule.COMPOSITION Expressions (is.says_in expressions (codes "Com"))
unfolding form_of_rule expression_form operation_of value_of other_form
composition place (x, ([], end)) = is.expression_plays x
composition place (x, (d ∷ ds, end)) = tt

pub unary : IsKnown rule.UNARY Expressions (is.says_in expressions (codes "Un"))
unfolding form_of_rule expression_form operation_of value_of other_form unary_of suffixed_of part_at
unary place (inl (w, (x, end2)), end) = simp ((is.is_expression x).1) tt
unary place (inr (inl (w, (x, end2))), end) = simp ((is.is_expression x).1) tt
unary place (inr (inr (inl (x, ([], end2)))), end) = is.expression_plays x
unary place (inr (inr (inl (inl x, (d ∷ ds, end2)))), end) = tt
unary place (inr (inr (inl (inr c, (d ∷ ds, end2)))), end) = tt
unary place (inr (inr (inr none)), end) = absurd none

pub suffix : IsKnown rule.SUFFIX Suffixes (is.says_in expressions (codes "Suf"))
unfolding form_of_rule expression_form operation_of value_of other_form suffix_of subscript_of field_of part_at word_at
suffix place (inl (w, (inl bounds, rest)), end) = tt
suffix place (inl (w, (inr (inl x), rest)), end) = tt
suffix place (inl (w, (inr (inr c), rest)), end) = tt
suffix place (inr (inl (w, (id, end2))), end) = tt
suffix place (inr (inr (inl (w, rest))), end) = tt
suffix place (inr (inr (inr (inl (w, rest)))), end) = tt
suffix place (inr (inr (inr (inr none))), end) = absurd none

pub subscript : IsKnown rule.SUBSCRIPT Subscripts (is.says_in expressions (codes "Sub"))
unfolding form_of_rule expression_form operation_of value_of other_form bounds_of
subscript place (inl (w, rest), end) = tt
subscript place (inr (inl (inl x, (None, end2))), end) = tt
subscript place (inr (inl (inr c, (None, end2))), end) = tt
subscript place (inr (inl (x, (Some (w, rest), end2))), end) = tt
subscript place (inr (inr none), end) = absurd none

pub primary : IsKnown rule.PRIMARY Expressions (is.says_in expressions (codes "Prim"))
unfolding form_of_rule expression_form operation_of value_of other_form primary_of
primary place (inl x, end) = tt
primary place (inr (inl (x)), end) = tt
primary place (inr (inr (inl (x, rest))), end) = tt
primary place (inr (inr (inr (inl (x)))), end) = tt
primary place (inr (inr (inr (inr (inl (x))))), end) = tt
primary place (inr (inr (inr (inr (inr (inl (x)))))), end) = tt
primary place (inr (inr (inr (inr (inr (inr (inl (x))))))), end) = tt
primary place (inr (inr (inr (inr (inr (inr (inr (inl (x)))))))), end) = tt
primary place (inr (inr (inr (inr (inr (inr (inr (inr (inl (x))))))))), end) = tt
primary place (inr (inr (inr (inr (inr (inr (inr (inr (inr (inl (x)))))))))), end) = is.expression_plays x
primary place (inr (inr (inr (inr (inr (inr (inr (inr (inr (inr (inl (x))))))))))), end) = is.expression_plays x
primary place (inr (inr (inr (inr (inr (inr (inr (inr (inr (inr (inr (inl (x)))))))))))), end) = is.expression_plays x
primary place (inr (inr (inr (inr (inr (inr (inr (inr (inr (inr (inr (inr (inl (x, rest))))))))))))), end) = tt
primary place (inr (inr (inr (inr (inr (inr (inr (inr (inr (inr (inr (inr (inr (inl (id, (w, rest))))))))))))))), end) = tt
primary place (inr (inr (inr (inr (inr (inr (inr (inr (inr (inr (inr (inr (inr (inr (inl (id))))))))))))))), end) = tt
primary place (inr (inr (inr (inr (inr (inr (inr (inr (inr (inr (inr (inr (inr (inr (inr (none))))))))))))))), end) = absurd none

pub argument : IsKnown rule.ARGUMENT Expressions (is.says_in expressions (codes "Arg"))
unfolding form_of_rule expression_form operation_of value_of other_form argument_of part_at
argument place (inl (w, (inl (start, (opening, (id, (closing, end3)))), end2)), end) = tt
argument place (inl (w, (inr (inl id), end2)), end) = tt
argument place (inl (w, (inr (inr none), end2)), end) = absurd none
argument place (inr (inl x), end) = is.expression_plays x
argument place (inr (inr none), end) = absurd none

pub visit : IsKnown rule.VISIT_EXPRESSION Visits (is.says_in expressions (codes "Visit"))
unfolding form_of_rule expression_form operation_of value_of other_form visit_of
visit place (None, (w, (opening, (x, rest)))) = simp ((is.is_expression x).1) tt
visit place (Some (strategy, end2), (w, (opening, (x, rest)))) = simp ((is.is_expression x).1) tt

pub strategy : IsKnown rule.VISIT_STRATEGY Strategies (is.says_in expressions (codes "Strategy"))
unfolding form_of_rule expression_form operation_of value_of other_form strategy_of word_at
strategy place (inl (w), end) = tt
strategy place (inr (inl (w)), end) = tt
strategy place (inr (inr (inl (w))), end) = tt
strategy place (inr (inr (inr (inl (w)))), end) = tt
strategy place (inr (inr (inr (inr (inl (w))))), end) = tt
strategy place (inr (inr (inr (inr (inr (inl (w)))))), end) = tt
strategy place (inr (inr (inr (inr (inr (inr (none)))))), end) = absurd none

pub concrete : IsKnown rule.CONCRETE Fragments (is.says_in expressions (codes "Concrete"))
unfolding form_of_rule expression_form operation_of value_of other_form concrete_of part_at
concrete place (opening, (sort, (closing, (text, end)))) = tt

abbrev Entries : Parts
Entries = in_turn (word "," · names.Exp · word ":" · names.Exp)

-- no bar stands among the entries of a map
no_bar_among_entries : (ds : List (DerivesAll Entries)) (closing : Place)
    → has_word terminal.BAR (forms_in ((((flat_map (items_all Entries) ds ++ Leaf (f.Word closing 13) ∷ []) ++ []) ++ []) ++ [])) ≡ false
no_bar_among_entries ds closing =
    ap (λ items. has_word terminal.BAR (forms_in items)) (section.and_nothing_thrice (flat_map (items_all Entries) ds ++ Leaf (f.Word closing 13) ∷ []))
    ∙ section.passes_section terminal.BAR (items_all Entries) one ds (Leaf (f.Word closing 13) ∷ [])
  where
    one : (derived : DerivesAll Entries) → has_word terminal.BAR (forms_in (items_all Entries derived)) ≡ false
    one (comma, (x, (colon, (y, end)))) = simp (is.no_word_expression terminal.BAR x, is.no_word_expression terminal.BAR y) refl

pub parenthesized : IsKnown rule.PARENTHESIZED Expressions (is.says_in expressions (codes "Paren"))
unfolding form_of_rule expression_form operation_of value_of other_form parenthesized_of map_comprehension_of reducer_of alone_of part_at
parenthesized place (opening, (inl closing, end)) = tt
parenthesized place (opening, (inr (inl (x, (inl closing, end2))), end)) = simp (is.no_word_expression terminal.COLON x, is.no_word_expression terminal.BAR x, (is.is_expression x).1) tt
parenthesized place (opening, (inr (inl (x, (inr (inl (bar, (y, (bar2, (conditions, (closing, end3)))))), end2))), end)) = simp (is.no_word_expression terminal.COLON x, is.no_word_expression terminal.BAR x, is.no_word_expression terminal.COLON y, is.no_word_conditions terminal.COLON conditions, (is.is_expression x).1, (is.is_expression y).1, (is.is_conditions conditions).1) tt
parenthesized place (opening, (inr (inl (x, (inr (inr (inl (colon, (y, (inl (bar, (conditions, (closing, end4))), end3))))), end2))), end)) = simp (is.no_word_expression terminal.COLON x, is.no_word_expression terminal.BAR x, is.no_word_expression terminal.BAR y, (is.is_expression x).1, (is.is_expression y).1, (is.is_conditions conditions).1) tt
parenthesized place (opening, (inr (inl (x, (inr (inr (inl (colon, (y, (inr (inl (ds, (closing, end4))), end3))))), end2))), end)) = simp (is.no_word_expression terminal.COLON x, is.no_word_expression terminal.BAR x, is.no_word_expression terminal.BAR y, no_bar_among_entries ds closing) tt
parenthesized place (opening, (inr (inl (x, (inr (inr (inl (colon, (y, (inr (inr none), end3))))), end2))), end)) = absurd none
parenthesized place (opening, (inr (inl (x, (inr (inr (inr none)), end2))), end)) = absurd none
parenthesized place (opening, (inr (inr none), end)) = absurd none

abbrev More : Parts
More = in_turn (word "," · names.Elem)

more_has_none : (t : ℕ) → (terminal.COMMA == t) ≡ false → (derived : DerivesAll More) → has_word t (forms_in (items_all More derived)) ≡ false
more_has_none t e (comma, (x, end)) = simp (e, is.no_word_expression t x) refl

-- a word passes the further elements
elements_pass : (t : ℕ) → (terminal.COMMA == t) ≡ false → (ds : List (DerivesAll More)) (rest : List Item)
    → has_word t (forms_in ((((flat_map (items_all More) ds ++ rest) ++ []) ++ []) ++ [])) ≡ has_word t (forms_in rest)
elements_pass t e ds rest =
    ap (λ items. has_word t (forms_in items)) (section.and_nothing_thrice (flat_map (items_all More) ds ++ rest))
    ∙ section.passes_section t (items_all More) (more_has_none t e) ds rest

behind_bar : (opening : Place) (x : Exp ⊎ Concrete) (bar : Place) (form : Form) (closing : Place)
    → behind_word terminal.BAR (f.Word opening 22 ∷ expression_said x ∷ f.Word bar 10 ∷ form ∷ f.Word closing 23 ∷ []) ≡ form ∷ f.Word closing 23 ∷ []
unfolding behind_word
behind_bar opening (inl x) bar form closing = refl
behind_bar opening (inr x) bar form closing = refl

bar_is_found : (bar : Place) (form : Form) (rest : List Form) → behind_word terminal.BAR (f.Word bar 10 ∷ form ∷ rest) ≡ form ∷ rest
unfolding behind_word
bar_is_found bar form rest = refl

behind_elements : (opening : Place) (x : Exp ⊎ Concrete) (comma : Place) (y : Exp ⊎ Concrete) (ds : List (DerivesAll More)) (bar : Place) (conditions : List Exp ⊎ (Exp ⊎ Concrete)) (closing : Place)
    → behind_word terminal.BAR
    (f.Word opening 22 ∷ expression_said x ∷ f.Word comma 12 ∷ expression_said y
    ∷ forms_in ((((flat_map (items_all More) ds ++ Leaf (f.Word bar 10) ∷ Phrase (form_in Conditions conditions) ∷ Leaf (f.Word closing 23) ∷ []) ++ []) ++ []) ++ []))
    ≡ form_in Conditions conditions ∷ f.Word closing 23 ∷ []
behind_elements opening x comma y ds bar conditions closing =
    let rest : List Item = Leaf (f.Word bar 10) ∷ Phrase (form_in Conditions conditions) ∷ Leaf (f.Word closing 23) ∷ [] in
    let tail : List Item = flat_map (items_all More) ds ++ rest in
    let none_in : (derived : DerivesAll More) → has_word terminal.BAR (forms_in (items_all More derived)) ≡ false = more_has_none terminal.BAR refl in
    section.behind_cons terminal.BAR (f.Word opening 22) _ refl
    ∙ (section.behind_cons terminal.BAR (expression_said x) _ (is.no_word_expression terminal.BAR x)
    ∙ (section.behind_cons terminal.BAR (f.Word comma 12) _ refl
    ∙ (section.behind_cons terminal.BAR (expression_said y) _ (is.no_word_expression terminal.BAR y)
    ∙ (ap (λ items. behind_word terminal.BAR (forms_in items)) (section.and_nothing_thrice tail)
    ∙ (section.behind_section terminal.BAR (items_all More) none_in ds rest
    ∙ bar_is_found bar (form_in Conditions conditions) (f.Word closing 23 ∷ []))))))

pub list : IsKnown rule.LIST_EXPRESSION Expressions (is.says_in expressions (codes "List"))
unfolding form_of_rule expression_form operation_of value_of other_form list_of short_range_of long_range_of list_comprehension_of part_at
list place (opening, (inl closing, end)) = tt
list place (opening, (inr (inl (x, (inl (dots, (y, (closing, end3))), end2))), end)) = simp (is.no_word_expression terminal.BAR x, is.no_word_expression terminal.BAR y, is.no_word_expression terminal.DOTS x, is.no_word_expression terminal.COMMA x, is.no_word_expression terminal.COMMA y, (is.is_expression x).1, (is.is_expression y).1) tt
list place (opening, (inr (inl (x, (inr (inl (bar, (conditions, (closing, end3)))), end2))), end)) = simp (is.no_word_expression terminal.BAR x, behind_bar opening x bar (form_in Conditions conditions) closing, (is.is_conditions conditions).1) tt
list place (opening, (inr (inl (x, (inr (inr (inl closing)), end2))), end)) = simp (is.no_word_expression terminal.BAR x, is.no_word_expression terminal.DOTS x) tt
list place (opening, (inr (inl (x, (inr (inr (inr (inl (comma, (y, (inl (dots, (z, (closing, end4))), end3)))))), end2))), end)) = simp (is.no_word_expression terminal.BAR x, is.no_word_expression terminal.BAR y, is.no_word_expression terminal.BAR z, is.no_word_expression terminal.DOTS x, is.no_word_expression terminal.DOTS y, is.no_word_expression terminal.COMMA x, (is.is_expression x).1, (is.is_expression y).1, (is.is_expression z).1) tt
list place (opening, (inr (inl (x, (inr (inr (inr (inl (comma, (y, (inr (inl (ds, (None, (closing, end4)))), end3)))))), end2))), end)) = simp (is.no_word_expression terminal.BAR x, is.no_word_expression terminal.BAR y, is.no_word_expression terminal.DOTS x, is.no_word_expression terminal.DOTS y, elements_pass terminal.BAR refl ds (Leaf (f.Word closing 23) ∷ []), elements_pass terminal.DOTS refl ds (Leaf (f.Word closing 23) ∷ [])) tt
list place (opening, (inr (inl (x, (inr (inr (inr (inl (comma, (y, (inr (inl (ds, (Some (bar, (conditions, end5)), (closing, end4)))), end3)))))), end2))), end)) = simp (is.no_word_expression terminal.BAR x, is.no_word_expression terminal.BAR y, elements_pass terminal.BAR refl ds (Leaf (f.Word bar 10) ∷ Phrase (form_in Conditions conditions) ∷ Leaf (f.Word closing 23) ∷ []), behind_elements opening x comma y ds bar conditions closing, (is.is_conditions conditions).1) tt
list place (opening, (inr (inl (x, (inr (inr (inr (inl (comma, (y, (inr (inr none), end3)))))), end2))), end)) = absurd none
list place (opening, (inr (inl (x, (inr (inr (inr (inr none))), end2))), end)) = absurd none
list place (opening, (inr (inr none), end)) = absurd none

one_elements_pass : (t : ℕ) → (terminal.COMMA == t) ≡ false → (ds : List (DerivesAll More)) (rest : List Item)
    → has_word t (forms_in ((flat_map (items_all More) ds ++ rest) ++ [])) ≡ has_word t (forms_in rest)
one_elements_pass t e ds rest =
    ap (λ items. has_word t (forms_in items)) (section.and_nothing (flat_map (items_all More) ds ++ rest))
    ∙ section.passes_section t (items_all More) (more_has_none t e) ds rest

behind_one_elements : (opening : Place) (x : Exp ⊎ Concrete) (ds : List (DerivesAll More)) (bar : Place) (conditions : List Exp ⊎ (Exp ⊎ Concrete)) (closing : Place)
    → behind_word terminal.BAR
    (f.Word opening 18 ∷ expression_said x
    ∷ forms_in ((flat_map (items_all More) ds ++ Leaf (f.Word bar 10) ∷ Phrase (form_in Conditions conditions) ∷ Leaf (f.Word closing 19) ∷ []) ++ []))
    ≡ form_in Conditions conditions ∷ f.Word closing 19 ∷ []
behind_one_elements opening x ds bar conditions closing =
    let rest : List Item = Leaf (f.Word bar 10) ∷ Phrase (form_in Conditions conditions) ∷ Leaf (f.Word closing 19) ∷ [] in
    let tail : List Item = flat_map (items_all More) ds ++ rest in
    let none_in : (derived : DerivesAll More) → has_word terminal.BAR (forms_in (items_all More derived)) ≡ false = more_has_none terminal.BAR refl in
    section.behind_cons terminal.BAR (f.Word opening 18) _ refl
    ∙ (section.behind_cons terminal.BAR (expression_said x) _ (is.no_word_expression terminal.BAR x)
    ∙ (ap (λ items. behind_word terminal.BAR (forms_in items)) (section.and_nothing tail)
    ∙ (section.behind_section terminal.BAR (items_all More) none_in ds rest
    ∙ bar_is_found bar (form_in Conditions conditions) (f.Word closing 19 ∷ []))))

pub set : IsKnown rule.SET_EXPRESSION Expressions (is.says_in expressions (codes "Set"))
unfolding form_of_rule expression_form operation_of value_of other_form set_of set_comprehension_of part_at
set place (opening, (inl closing, end)) = tt
set place (opening, (inr (inl (x, (ds, (None, (closing, end2))))), end)) = simp (is.no_word_expression terminal.BAR x, one_elements_pass terminal.BAR refl ds (Leaf (f.Word closing 19) ∷ [])) tt
set place (opening, (inr (inl (x, (ds, (Some (bar, (conditions, end3)), (closing, end2))))), end)) = simp (is.no_word_expression terminal.BAR x, one_elements_pass terminal.BAR refl ds (Leaf (f.Word bar 10) ∷ Phrase (form_in Conditions conditions) ∷ Leaf (f.Word closing 19) ∷ []), behind_one_elements opening x ds bar conditions closing, (is.is_conditions conditions).1) tt
set place (opening, (inr (inr none), end)) = absurd none

pub element : IsKnown rule.ELEMENT Expressions (is.says_in expressions (codes "Elem"))
unfolding form_of_rule expression_form operation_of value_of other_form splice_of part_at
element place (inl (w, (x, end2)), end) = simp ((is.is_expression x).1) tt
element place (inr (inl x), end) = is.expression_plays x
element place (inr (inr none), end) = absurd none
