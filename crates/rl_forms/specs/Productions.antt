-- Parts of syntax definitions among the parts of a phrase.
use Rattle.std.specs.Prelude.{[], ◌∷◌, Option, Some, None}
use Rattle.std.specs.Option.{option_map}
use Rattle.rl_productions.specs.declared.definition.Alt.{Alt}
use Rattle.rl_productions.specs.declared.definition.Assoc.{Assoc}
use Rattle.rl_productions.specs.declared.definition.Level.{Level}
use Rattle.rl_productions.specs.declared.definition.Prod.{Prod}
use Rattle.rl_productions.specs.declared.symbol.Atom.{Atom}
use Rattle.rl_productions.specs.declared.symbol.Atom.TheVariants as a
use Rattle.rl_productions.specs.declared.symbol.Near.{Near}
use Rattle.rl_productions.specs.declared.symbol.Near.TheVariants as n
use Rattle.rl_productions.specs.declared.symbol.Rep.{Rep}
use Rattle.rl_productions.specs.declared.symbol.Rep.TheVariants as r
use Rattle.rl_productions.specs.declared.symbol.Sym.{Sym}
use Rattle.rl_forms.specs.declared.form.Form.{Form}
use Rattle.rl_forms.specs.declared.form.Form.TheVariants as f
use Rattle.rl_forms.specs.declared.form.GrammarForm.{GrammarForm}
use Rattle.rl_forms.specs.declared.form.GrammarForm.TheVariants as g
use Rattle.rl_forms.specs.Part.{or_else}

-- what a form is as a part of a syntax definition
abbrev pub in_grammar : {P : Type 0} → (GrammarForm → Option P) → Form → Option P
in_grammar of_form (f.Grammar form) = of_form form
in_grammar of_form _ = None

-- a class may adjoin a symbol too
abbrev pub near_in : GrammarForm → Option Near
near_in (g.Class found) = Some (n.Class found)
near_in (g.Near near) = Some near
near_in _ = None

abbrev pub as_near : Form → Option Near
as_near = in_grammar near_in

-- a class is an atom too
abbrev pub atom_in : GrammarForm → Option Atom
atom_in (g.Class found) = Some (a.Class found)
atom_in (g.Atom atom) = Some atom
atom_in _ = None

abbrev pub as_atom : Form → Option Atom
as_atom = in_grammar atom_in

abbrev pub repetition_in : GrammarForm → Option Rep
repetition_in (g.Repetition repetition) = Some repetition
repetition_in _ = None

-- an atom is a repetition of one
abbrev pub as_repetition : Form → Option Rep
as_repetition part = or_else (in_grammar repetition_in part) (option_map r.One (as_atom part))

abbrev pub symbol_in : GrammarForm → Option Sym
symbol_in (g.Symbol symbol) = Some symbol
symbol_in _ = None

abbrev pub plain_symbol : Rep → Sym
plain_symbol rep = record { before = None; rep = rep; after = [] }

-- a repetition is a symbol without limits
abbrev pub as_symbol : Form → Option Sym
as_symbol part = or_else (in_grammar symbol_in part) (option_map plain_symbol (as_repetition part))

abbrev pub production_in : GrammarForm → Option Prod
production_in (g.Production production) = Some production
production_in _ = None

abbrev pub plain_production : Sym → Prod
plain_production symbol = record { label = None; symbols = symbol ∷ [] }

-- a symbol is a production of one symbol
abbrev pub as_production : Form → Option Prod
as_production part = or_else (in_grammar production_in part) (option_map plain_production (as_symbol part))

abbrev pub mark_in : GrammarForm → Option Assoc
mark_in (g.Associativity mark) = Some mark
mark_in _ = None

abbrev pub as_mark : Form → Option Assoc
as_mark = in_grammar mark_in

abbrev pub alternative_in : GrammarForm → Option Alt
alternative_in (g.Alternative alternative) = Some alternative
alternative_in _ = None

abbrev pub plain_alternative : Prod → Alt
plain_alternative production = record { mark = None; prods = production ∷ [] }

-- a production is an alternative without a mark
abbrev pub as_alternative : Form → Option Alt
as_alternative part = or_else (in_grammar alternative_in part) (option_map plain_alternative (as_production part))

abbrev pub level_in : GrammarForm → Option Level
level_in (g.Level level) = Some level
level_in _ = None

abbrev pub plain_level : Alt → Level
plain_level alternative = record { alts = alternative ∷ [] }

-- an alternative is a level of one alternative
abbrev pub as_level : Form → Option Level
as_level part = or_else (in_grammar level_in part) (option_map plain_level (as_alternative part))
