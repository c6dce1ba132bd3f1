-- Rules of patterns.
use Rattle.std.specs.Prelude.{Some, None, codes}
use Rattle.std.proofs.Common.{inl, inr}
use Rattle.rl_phrase_table.specs.Grammar.{patterns}
use Rattle.rl_phrase_table.specs.declared.rules.TheConstants as rule
use Rattle.rl_forms.specs.Part.{part_at}
use Rattle.rl_reader.specs.Node.{form_of_rule}
use Rattle.rl_expression_forms.specs.Rule.{expression_form, operation_of, value_of, other_form}
use Rattle.rl_pattern_forms.specs.Rule.{pattern_form}
use Rattle.rl_reading.proofs.Roles.{Patterns, Elements}
use Rattle.rl_reading.proofs.Derivations.{IsKnown}
use Rattle.rl_reading.proofs.Facts as is
use Rattle.rl_pattern_forms.specs.Named.{named_of, binding_of, typed_binding_of}
use Rattle.rl_pattern_forms.specs.Plain.{plain_of, wordy_of, typed_variable_of, typed_wildcard_of, constructor_of}
use Rattle.rl_pattern_forms.specs.Literals.{token_of}
use Rattle.rl_pattern_forms.specs.Elements.{rest_of, named_rest_of, typed_rest_of}

pub pattern : IsKnown rule.PATTERN Patterns (is.says_in patterns (codes "Pat"))
unfolding form_of_rule expression_form operation_of value_of other_form pattern_form named_of binding_of typed_binding_of part_at
pattern place (inl (ty, (id, (colon, (p, end2)))), end) = simp ((is.is_pattern p).1) tt
pattern place (inr (inl (id, (colon, (p, end2)))), end) = simp ((is.is_pattern p).1) tt
pattern place (inr (inr (inl p)), end) = is.pattern_plays p
pattern place (inr (inr (inr none)), end) = absurd none

pub plain_pattern : IsKnown rule.PLAIN_PATTERN Patterns (is.says_in patterns (codes "Plain"))
unfolding form_of_rule expression_form operation_of value_of other_form pattern_form plain_of wordy_of typed_variable_of typed_wildcard_of constructor_of token_of part_at
plain_pattern place (inl (w, (p, end2)), end) = simp ((is.is_pattern p).1) tt
plain_pattern place (inr (inl (w, (p, end2))), end) = simp ((is.is_pattern p).1) tt
plain_pattern place (inr (inr (inl (c))), end) = tt
plain_pattern place (inr (inr (inr (inl (id, (w, rest))))), end) = tt
plain_pattern place (inr (inr (inr (inr (inl (ty, (inl id, end2)))))), end) = tt
plain_pattern place (inr (inr (inr (inr (inl (ty, (inr (inl w), end2)))))), end) = tt
plain_pattern place (inr (inr (inr (inr (inl (ty, (inr (inr none), end2)))))), end) = absurd none
plain_pattern place (inr (inr (inr (inr (inr (inl (w, (None, (closing, end2)))))))), end) = tt
plain_pattern place (inr (inr (inr (inr (inr (inr (inl (w, (None, (closing, end2))))))))), end) = tt
plain_pattern place (inr (inr (inr (inr (inr (inl (w, (Some (x, rest2), rest))))))), end) = tt
plain_pattern place (inr (inr (inr (inr (inr (inr (inl (w, (Some (x, rest2), rest)))))))), end) = tt
plain_pattern place (inr (inr (inr (inr (inr (inr (inr (inl (w, (p, rest))))))))), end) = tt
plain_pattern place (inr (inr (inr (inr (inr (inr (inr (inr (inl (w, (n, end2)))))))))), end) = tt
plain_pattern place (inr (inr (inr (inr (inr (inr (inr (inr (inr (inl (x)))))))))), end) = tt
plain_pattern place (inr (inr (inr (inr (inr (inr (inr (inr (inr (inr (inl (x))))))))))), end) = tt
plain_pattern place (inr (inr (inr (inr (inr (inr (inr (inr (inr (inr (inr (inl (x)))))))))))), end) = tt
plain_pattern place (inr (inr (inr (inr (inr (inr (inr (inr (inr (inr (inr (inr (inl (x))))))))))))), end) = tt
plain_pattern place (inr (inr (inr (inr (inr (inr (inr (inr (inr (inr (inr (inr (inr (inl (x)))))))))))))), end) = tt
plain_pattern place (inr (inr (inr (inr (inr (inr (inr (inr (inr (inr (inr (inr (inr (inr (inl (x))))))))))))))), end) = tt
plain_pattern place (inr (inr (inr (inr (inr (inr (inr (inr (inr (inr (inr (inr (inr (inr (inr (inl (x)))))))))))))))), end) = tt
plain_pattern place (inr (inr (inr (inr (inr (inr (inr (inr (inr (inr (inr (inr (inr (inr (inr (inr (none)))))))))))))))), end) = absurd none

pub pattern_element : IsKnown rule.PATTERN_ELEMENT Elements (is.says_in patterns (codes "Star"))
unfolding form_of_rule expression_form operation_of value_of other_form pattern_form rest_of named_rest_of typed_rest_of part_at
pattern_element place (inl (w, (w2, end2)), end) = tt
pattern_element place (inr (inl (w, (ty, (id, end2)))), end) = tt
pattern_element place (inr (inr (inl (w, (id, end2)))), end) = tt
pattern_element place (inr (inr (inr (inl p))), end) = is.element_plays p
pattern_element place (inr (inr (inr (inr none))), end) = absurd none
