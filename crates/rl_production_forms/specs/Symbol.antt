-- Symbols with what limits them.
use Rattle.std.specs.Prelude.{ℕ, ◌==◌, Bool, true, false, if◌then◌else◌, List, [], ◌∷◌, Option, Some, None}
use Rattle.rl_productions.specs.declared.symbol.After.{After}
use Rattle.rl_productions.specs.declared.symbol.After.TheVariants as l
use Rattle.rl_productions.specs.declared.symbol.Sym.{Sym}
use Rattle.rl_tokens.specs.declared.terminal.TheConstants.{BACKSLASH, FOLLOWED, NOT_FOLLOWED, NOT_PRECEDED, PRECEDED}
use Rattle.rl_forms.specs.declared.form.Form.{Form}
use Rattle.rl_forms.specs.declared.form.Form.TheVariants as f
use Rattle.rl_forms.specs.Part.{given, part_at}
use Rattle.rl_forms.specs.Words.{put, word_at}
use Rattle.rl_forms.specs.Names.{as_name}
use Rattle.rl_forms.specs.Productions.{as_near, as_repetition}

-- what must follow, or must not
abbrev pub follow_of : Bool → List Form → Option After
follow_of negated behind = given (part_at as_near behind 0) (λ near. Some (l.Follow (record { negated = negated; near = near })))

-- \ K
unfoldable pub reserved_of : List Form → Option After
reserved_of behind = given (part_at as_name behind 0) (λ name. Some (l.Reserve name.name name.place))

abbrev pub after_by : ℕ → List Form → Option After
after_by word behind =
    if word == NOT_FOLLOWED then follow_of true behind
    else (if word == FOLLOWED then follow_of false behind
    else (if word == BACKSLASH then reserved_of behind else None))

-- the limit that begins with a part: !>> or >> and what adjoins, or a backslash and a sort
abbrev pub step : Form → List Form → Option After
step (f.Word place word) behind = after_by word behind
step _ behind = None

-- the limits behind a symbol
abbrev pub afters_in : List Form → List After
afters_in [] = []
afters_in (part ∷ behind) = put (step part behind) (afters_in behind)

abbrev pub negation_by : ℕ → Option Bool
negation_by word = if word == NOT_PRECEDED then Some true else (if word == PRECEDED then Some false else None)

-- whether what stands before the symbol must not stand there, if anything is said of that
unfoldable pub negation_of : List Form → Option Bool
negation_of parts = given (word_at parts 1) (λ word. negation_by word)

unfoldable pub plain_of : List Form → Option Sym
plain_of parts =
    given (part_at as_repetition parts 0) (λ rep.
    Some (record { before = None; rep = rep; after = afters_in parts }))

unfoldable pub limited_of : Bool → List Form → Option Sym
limited_of negated parts =
    given (part_at as_near parts 0) (λ near.
    given (part_at as_repetition parts 2) (λ rep.
    Some (record { before = Some (record { negated = negated; near = near }); rep = rep; after = afters_in parts })))

abbrev pub symbol_from : Option Bool → List Form → Option Sym
symbol_from (Some negated) parts = limited_of negated parts
symbol_from None parts = plain_of parts

-- a symbol, with or without a limit before it
unfoldable pub symbol_of : List Form → Option Sym
symbol_of parts = symbol_from (negation_of parts) parts
