-- What the parts of a phrase are, by the roles that they play.
use Rattle.std.specs.Prelude.{◌≡◌, ℕ, false, List, [], ◌∷◌, Option, Some, refl, ◌⊎◌, if◌then◌else◌}
use Rattle.std.proofs.Common.{inl, inr}
use Rattle.rl_productions.specs.declared.definition.Alt.{Alt}
use Rattle.rl_productions.specs.declared.definition.Prod.{Prod}
use Rattle.rl_productions.specs.declared.symbol.Atom.{Atom}
use Rattle.rl_productions.specs.declared.symbol.CharClass.{CharClass}
use Rattle.rl_productions.specs.declared.symbol.Near.{Near}
use Rattle.rl_productions.specs.declared.symbol.Rep.{Rep}
use Rattle.rl_productions.specs.declared.symbol.Sym.{Sym}
use Rattle.rl_syntax.specs.declared.expression.Exp.{Exp}
use Rattle.rl_syntax.specs.declared.fragment.Concrete.{Concrete}
use Rattle.rl_syntax.specs.declared.pattern.Pattern.{Pattern}
use Rattle.rl_syntax.specs.declared.pattern.PatternElement.{PatternElement}
use Rattle.rl_syntax.specs.declared.statement.Stat.{Stat}
use Rattle.rl_phrase_table.specs.Expression.{Expression, Word, Grammar}
use Rattle.rl_forms.specs.Expressions.{as_conditions, as_expression}
use Rattle.rl_forms.specs.Patterns.{as_element, as_pattern}
use Rattle.rl_forms.specs.Productions.{as_alternative, as_atom, as_level, as_near, as_production, as_repetition, as_symbol}
use Rattle.rl_forms.specs.Statements.{as_statement}
use Rattle.rl_forms.specs.Words.{is_word}
use Rattle.rl_statement_forms.specs.RightSide.{as_right_side}
use Rattle.rl_reading.proofs.Roles.{There, form_in, expression_said, pattern_said, atom_form, repetition_form, symbol_form, production_form, alternative_form, Conditions, Statements, Adjoinings, Elements}
use Rattle.std.specs.Str.{bytes_eq}

-- the rule of a name
abbrev pub says_in : Grammar → List ℕ → Expression
says_in [] name = Word []
says_in (one ∷ rules) name = if bytes_eq one.name name then one.says else says_in rules name

-- a value that is there
abbrev pub IsThere : {A : Type 0} → Option A → Type 0
IsThere {A} o = (x : A) × (o ≡ Some x)

pub is_expression : (x : Exp ⊎ Concrete) → IsThere (as_expression (expression_said x))
is_expression (inl x) = (_, refl)
is_expression (inr c) = (_, refl)

pub is_conditions : (x : List Exp ⊎ (Exp ⊎ Concrete)) → IsThere (as_conditions (form_in Conditions x))
is_conditions (inl x) = (_, refl)
is_conditions (inr (inl x)) = (_, refl)
is_conditions (inr (inr c)) = (_, refl)

pub is_statement : (x : Stat ⊎ Exp) → IsThere (as_statement (form_in Statements x))
is_statement (inl x) = (_, refl)
is_statement (inr c) = (_, refl)

pub is_right_side : (x : Stat ⊎ Exp) → IsThere (as_right_side (form_in Statements x))
is_right_side (inl x) = (_, refl)
is_right_side (inr c) = (_, refl)

pub is_pattern : (x : Pattern ⊎ Concrete) → IsThere (as_pattern (pattern_said x))
is_pattern (inl x) = (_, refl)
is_pattern (inr c) = (_, refl)

pub is_atom : (x : Atom ⊎ CharClass) → IsThere (as_atom (atom_form x))
is_atom (inl x) = (_, refl)
is_atom (inr c) = (_, refl)

pub is_repetition : (x : Rep ⊎ (Atom ⊎ CharClass)) → IsThere (as_repetition (repetition_form x))
is_repetition (inl x) = (_, refl)
is_repetition (inr (inl x)) = (_, refl)
is_repetition (inr (inr c)) = (_, refl)

pub is_near : (x : Near ⊎ CharClass) → IsThere (as_near (form_in Adjoinings x))
is_near (inl x) = (_, refl)
is_near (inr c) = (_, refl)

-- what says less than its role
pub repetition_plays : (x : Atom ⊎ CharClass) → There (as_repetition (atom_form x))
repetition_plays (inl x) = tt
repetition_plays (inr c) = tt

pub symbol_plays : (x : Rep ⊎ (Atom ⊎ CharClass)) → There (as_symbol (repetition_form x))
symbol_plays (inl x) = tt
symbol_plays (inr (inl x)) = tt
symbol_plays (inr (inr c)) = tt

pub production_plays : (x : Sym ⊎ (Rep ⊎ (Atom ⊎ CharClass))) → There (as_production (symbol_form x))
production_plays (inl x) = tt
production_plays (inr (inl x)) = tt
production_plays (inr (inr (inl x))) = tt
production_plays (inr (inr (inr c))) = tt

pub alternative_plays : (x : Prod ⊎ (Sym ⊎ (Rep ⊎ (Atom ⊎ CharClass)))) → There (as_alternative (production_form x))
alternative_plays (inl x) = tt
alternative_plays (inr (inl x)) = tt
alternative_plays (inr (inr (inl x))) = tt
alternative_plays (inr (inr (inr (inl x)))) = tt
alternative_plays (inr (inr (inr (inr c)))) = tt

pub level_plays : (x : Alt ⊎ (Prod ⊎ (Sym ⊎ (Rep ⊎ (Atom ⊎ CharClass))))) → There (as_level (alternative_form x))
level_plays (inl x) = tt
level_plays (inr (inl x)) = tt
level_plays (inr (inr (inl x))) = tt
level_plays (inr (inr (inr (inl x)))) = tt
level_plays (inr (inr (inr (inr (inl x))))) = tt
level_plays (inr (inr (inr (inr (inr c))))) = tt

pub expression_plays : (x : Exp ⊎ Concrete) → There (as_expression (expression_said x))
expression_plays (inl x) = tt
expression_plays (inr c) = tt

pub conditions_play : (x : Exp ⊎ Concrete) → There (as_conditions (expression_said x))
conditions_play (inl x) = tt
conditions_play (inr c) = tt

pub pattern_plays : (x : Pattern ⊎ Concrete) → There (as_pattern (pattern_said x))
pattern_plays (inl x) = tt
pattern_plays (inr c) = tt

pub element_plays : (x : Pattern ⊎ Concrete) → There (as_element (pattern_said x))
element_plays (inl x) = tt
element_plays (inr c) = tt

-- what is no word
pub no_word_expression : (t : ℕ) (x : Exp ⊎ Concrete) → is_word t (expression_said x) ≡ false
no_word_expression t (inl x) = refl
no_word_expression t (inr c) = refl

pub no_word_pattern : (t : ℕ) (x : Pattern ⊎ Concrete) → is_word t (pattern_said x) ≡ false
no_word_pattern t (inl x) = refl
no_word_pattern t (inr c) = refl

pub no_word_statement : (t : ℕ) (x : Stat ⊎ Exp) → is_word t (form_in Statements x) ≡ false
no_word_statement t (inl x) = refl
no_word_statement t (inr c) = refl

pub no_word_conditions : (t : ℕ) (x : List Exp ⊎ (Exp ⊎ Concrete)) → is_word t (form_in Conditions x) ≡ false
no_word_conditions t (inl x) = refl
no_word_conditions t (inr (inl x)) = refl
no_word_conditions t (inr (inr c)) = refl

pub no_word_atom : (t : ℕ) (x : Atom ⊎ CharClass) → is_word t (atom_form x) ≡ false
no_word_atom t (inl x) = refl
no_word_atom t (inr c) = refl

pub no_word_element : (t : ℕ) (x : PatternElement ⊎ (Pattern ⊎ Concrete)) → is_word t (form_in Elements x) ≡ false
no_word_element t (inl x) = refl
no_word_element t (inr (inl x)) = refl
no_word_element t (inr (inr c)) = refl
