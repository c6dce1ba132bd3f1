-- The tables of the code are those of the definitions.
use Rattle.std.proofs.Common.{◌≡◌, true, map, refl}
use Rattle.rl_tokens.specs.Terminal.{hyphened, symbols, grammar_symbols}
use Rattle.rl_tokens.specs.Word.{has_no_empty}
use Rattle.rl_tokens.specs.declared.terminal.TheConstants.{HYPHENED, SYMBOLS, GRAMMAR_SYMBOLS}

pub hyphened_are : map (λ row. (row.0.now, row.1)) HYPHENED ≡ hyphened
unfolding hyphened
hyphened_are = refl

pub symbols_are : map (λ row. (row.0.now, row.1)) SYMBOLS ≡ symbols
unfolding symbols
symbols_are = refl

pub grammar_symbols_are : map (λ row. (row.0.now, row.1)) GRAMMAR_SYMBOLS ≡ grammar_symbols
unfolding grammar_symbols
grammar_symbols_are = refl

pub hyphened_no_empty : has_no_empty (map (λ row. (row.0.now, row.1)) HYPHENED) ≡ true
hyphened_no_empty = refl

pub symbols_no_empty : has_no_empty (map (λ row. (row.0.now, row.1)) SYMBOLS) ≡ true
symbols_no_empty = refl

pub grammar_symbols_no_empty : has_no_empty (map (λ row. (row.0.now, row.1)) GRAMMAR_SYMBOLS) ≡ true
grammar_symbols_no_empty = refl
