-- The terminals of the grammar of modules, and which words and symbols are terminals.
use Rattle.std.specs.Prelude.{ℕ, List, [], ◌∷◌, codes, map}
use Rattle.std.specs.List.{position_or_len}
use Rattle.std.specs.Str.{bytes_eq}

-- the terminals, in the order in which the rules of the grammar first write them
abbrev pub terminals : List (List ℕ)
terminals = codes "module" ∷ codes "End" ∷ codes "Id" ∷ codes "::" ∷ codes "import" ∷ codes "extend"
    ∷ codes ";" ∷ codes "public" ∷ codes "data" ∷ codes "=" ∷ codes "|" ∷ codes "("
    ∷ codes "," ∷ codes ")" ∷ codes "private" ∷ codes "default" ∷ codes "test" ∷ codes "when"
    ∷ codes "{" ∷ codes "}" ∷ codes "list" ∷ codes "set" ∷ codes "[" ∷ codes "]"
    ∷ codes "map" ∷ codes "tuple" ∷ codes "rel" ∷ codes "lrel" ∷ codes "bool" ∷ codes "int"
    ∷ codes "str" ∷ codes "loc" ∷ codes "void" ∷ codes "value" ∷ codes "start" ∷ codes "syntax"
    ∷ codes "lexical" ∷ codes "layout" ∷ codes "keyword" ∷ codes "UId" ∷ codes ">" ∷ codes "left"
    ∷ codes "right" ∷ codes "assoc" ∷ codes "non-assoc" ∷ codes "bracket" ∷ codes "LId" ∷ codes ":"
    ∷ codes "!<<" ∷ codes "<<" ∷ codes "!>>" ∷ codes ">>" ∷ codes "\\" ∷ codes "Str"
    ∷ codes "*" ∷ codes "+" ∷ codes "?" ∷ codes "!" ∷ codes "Class" ∷ codes "if"
    ∷ codes "else" ∷ codes "switch" ∷ codes "case" ∷ codes "=>" ∷ codes "for" ∷ codes "while"
    ∷ codes "do" ∷ codes "solve" ∷ codes "try" ∷ codes "catch" ∷ codes "finally" ∷ codes "return"
    ∷ codes "insert" ∷ codes "append" ∷ codes "throw" ∷ codes "fail" ∷ codes "break" ∷ codes "continue"
    ∷ codes "<" ∷ codes "." ∷ codes "+=" ∷ codes "-=" ∷ codes "*=" ∷ codes "/="
    ∷ codes "&=" ∷ codes "==>" ∷ codes "<==>" ∷ codes "||" ∷ codes "&&" ∷ codes ":="
    ∷ codes "!:=" ∷ codes "<-" ∷ codes "==" ∷ codes "!=" ∷ codes "<=" ∷ codes ">="
    ∷ codes "in" ∷ codes "notin" ∷ codes "is" ∷ codes "-" ∷ codes "&" ∷ codes "/"
    ∷ codes "%" ∷ codes "o" ∷ codes ".." ∷ codes "Int" ∷ codes "StrHead" ∷ codes "Loc"
    ∷ codes "true" ∷ codes "false" ∷ codes "it" ∷ codes "visit" ∷ codes "StrMid" ∷ codes "StrTail"
    ∷ codes "#" ∷ codes "innermost" ∷ codes "outermost" ∷ codes "top-down" ∷ codes "top-down-break" ∷ codes "bottom-up"
    ∷ codes "bottom-up-break" ∷ codes "Back" ∷ codes "_" ∷ []

-- the number of a terminal is its place, counted from 0
abbrev pub number_of : List ℕ → ℕ
number_of name = position_or_len (bytes_eq name) terminals

-- a text and the number of its terminal
abbrev pub Row : Type 0
Row = List ℕ × ℕ

abbrev pub numbered : List ℕ → Row
numbered text = (text, number_of text)

-- the reserved words without a hyphen, and the `_` that stands alone
unfoldable pub words : List Row
words = map numbered (codes "module" ∷ codes "import" ∷ codes "extend" ∷ codes "public" ∷ codes "private" ∷ codes "data"
    ∷ codes "default" ∷ codes "test" ∷ codes "syntax" ∷ codes "lexical" ∷ codes "layout" ∷ codes "keyword"
    ∷ codes "if" ∷ codes "else" ∷ codes "switch" ∷ codes "case" ∷ codes "visit" ∷ codes "for"
    ∷ codes "while" ∷ codes "do" ∷ codes "solve" ∷ codes "try" ∷ codes "catch" ∷ codes "finally"
    ∷ codes "return" ∷ codes "insert" ∷ codes "append" ∷ codes "throw" ∷ codes "fail" ∷ codes "break"
    ∷ codes "continue" ∷ codes "true" ∷ codes "false" ∷ codes "in" ∷ codes "notin" ∷ codes "is"
    ∷ codes "o" ∷ codes "it" ∷ codes "when" ∷ codes "list" ∷ codes "set" ∷ codes "map"
    ∷ codes "tuple" ∷ codes "rel" ∷ codes "lrel" ∷ codes "bool" ∷ codes "int" ∷ codes "str"
    ∷ codes "loc" ∷ codes "void" ∷ codes "value" ∷ codes "innermost" ∷ codes "outermost" ∷ codes "_" ∷ [])

-- the reserved words with a hyphen, the longest first
unfoldable pub hyphened : List Row
hyphened = map numbered (codes "bottom-up-break" ∷ codes "top-down-break" ∷ codes "bottom-up" ∷ codes "non-assoc" ∷ codes "top-down" ∷ [])

-- the symbols, the longest first
unfoldable pub symbols : List Row
symbols = map numbered (codes "<==>" ∷ codes "==>" ∷ codes "!:=" ∷ codes "&&" ∷ codes "||" ∷ codes "==" ∷ codes "!=" ∷ codes "<="
    ∷ codes ">=" ∷ codes ":=" ∷ codes "<-" ∷ codes "=>" ∷ codes "::" ∷ codes ".." ∷ codes "+=" ∷ codes "-="
    ∷ codes "*=" ∷ codes "/=" ∷ codes "&=" ∷ codes "(" ∷ codes ")" ∷ codes "[" ∷ codes "]" ∷ codes "{"
    ∷ codes "}" ∷ codes "<" ∷ codes ">" ∷ codes "," ∷ codes ";" ∷ codes ":" ∷ codes "." ∷ codes "?"
    ∷ codes "!" ∷ codes "+" ∷ codes "-" ∷ codes "*" ∷ codes "/" ∷ codes "%" ∷ codes "&" ∷ codes "="
    ∷ codes "|" ∷ codes "#" ∷ [])

-- the symbols of syntax definitions alone, the longest first
unfoldable pub grammar_symbols : List Row
grammar_symbols = map numbered (codes "!>>" ∷ codes "!<<" ∷ codes ">>" ∷ codes "<<" ∷ codes "\\" ∷ [])

-- the terminals that are classes of tokens, in their order
abbrev pub classes : List (List ℕ)
classes = codes "End" ∷ codes "Id" ∷ codes "UId" ∷ codes "LId" ∷ codes "Str" ∷ codes "Class"
    ∷ codes "Int" ∷ codes "StrHead" ∷ codes "Loc" ∷ codes "StrMid" ∷ codes "StrTail" ∷ codes "Back" ∷ []

-- the terminals that are names like any other, in their order
abbrev pub names : List (List ℕ)
names = codes "start" ∷ codes "left" ∷ codes "right" ∷ codes "assoc" ∷ codes "bracket" ∷ []
