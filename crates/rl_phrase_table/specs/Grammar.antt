-- The grammar of modules.
--
-- `word "if"` is a word or a symbol. A name is what its rule says, or a token of its class: the classes are `End`, `Id`, `UId`,
-- `LId`, `Int`, `Str`, `StrHead`, `StrMid`, `StrTail`, `Loc`, `Back` and `Class`. `∕` tries from the left and takes the first that
-- succeeds; `*`, `+` and `？` take as much as they can; `! x` succeeds where x fails, and takes nothing.
--
-- To add a rule:
--
-- 1. Write its line here, and its name in Names.antt. Names that it brings into this file are imported below.
-- 2. For each new word, write a constant in `rl_tokens/src/terminal.rt`, with any number, and its row in the table of words or
--    symbols there and in `rl_tokens/specs/Terminal.antt`.
-- 3. Run `tools/phrase-table.py`, which numbers the terminals and makes the table of rows and its certificate, and `rt fmt`. What
--    the rule is called in Rust stands in that tool, where it is not the name in capitals.
-- 4. Write its name and its constant in the list of `rules_are_the_grammar` (`src/laws.rt`), in the order of this file.
--
-- The laws prove that the table, the constants and the numbers of the terminals are those of this grammar.
use Rattle.std.specs.Prelude.{[], ◌∷◌, ◌++◌}
use Rattle.rl_phrase_table.specs.Expression.{Grammar, word, ◌·◌, ◌∕◌, ◌*, ◌+, ◌？, !◌, ◌⟶◌}
use Rattle.rl_phrase_table.specs.Names.{Module, QName, Top, Import, DataDef, Variant, Field, Global, Fun, «Type»}
use Rattle.rl_phrase_table.specs.Names.{Syntax, Level, Alt, Assoc, Prod, Sym, Near, Rep, Atom, Chars}
use Rattle.rl_phrase_table.specs.Names.{Stat, Block, If, Switch, Case, Loop, Solve, Try, Catch, Finally, Simple, Rhs, Conds}
use Rattle.rl_phrase_table.specs.Names.{Exp, Imp, Or, And, Test, Cmp, Rel, Add, Mul, Com, Un, Suf, Sub, Starter, Prim, Arg, Visit, Strategy, Concrete, Paren, List, Set, Elem}
use Rattle.rl_phrase_table.specs.Names.{Pat, Plain, Star}
use Rattle.rl_phrase_table.specs.Names.{End, Id, UId, LId, Int, Str, StrHead, StrMid, StrTail, Loc, Back, Class}

-- modules and declarations
abbrev pub modules : Grammar
modules =
    Module ⟶ word "module" · QName · Top * · End
    ∷ QName ⟶ Id · (word "::" · Id) *
    ∷ Top ⟶ Import ∕ Syntax ∕ DataDef ∕ Fun ∕ Global
    ∷ Import ⟶ (word "import" ∕ word "extend") · QName · word ";"
    ∷ DataDef ⟶ word "public" ？ · word "data" · Id · (word "=" · Variant · (word "|" · Variant) *) ？ · word ";"
    ∷ Variant ⟶ Id · word "(" · (Field · (word "," · Field) *) ？ · word ")"
    ∷ Field ⟶ «Type» · Id ？
    ∷ Global ⟶ (word "public" ∕ word "private") ？ · «Type» · Id · word "=" · Exp · word ";"
    ∷ Fun ⟶ (word "public" ∕ word "private") ？ · (word "default" ∕ word "test") ？ · «Type» · Id · word "("
    · (Pat · (word "," · Pat) *) ？ · word ")"
    · (word "=" · Exp · (word "when" · Conds) ？ · word ";" ∕ word "{" · Stat * · word "}")
    ∷ «Type» ⟶ (word "list" ∕ word "set") · word "[" · «Type» · word "]"
    ∕ word "map" · word "[" · «Type» · word "," · «Type» · word "]"
    ∕ (word "tuple" ∕ word "rel" ∕ word "lrel") · word "[" · Field · (word "," · Field) * · word "]"
    ∕ word "bool" ∕ word "int" ∕ word "str" ∕ word "loc" ∕ word "void" ∕ word "value" ∕ Id
    ∷ []

-- syntax definitions
abbrev pub syntax_definitions : Grammar
syntax_definitions =
    Syntax ⟶ (word "start" ？ · word "syntax" ∕ word "lexical" ∕ word "layout" ∕ word "keyword") · UId · word "=" · Level
    · (word ">" · Level) * · word ";"
    ∷ Level ⟶ Alt · (word "|" · Alt) *
    ∷ Alt ⟶ Assoc · word "(" · Prod · (word "|" · Prod) * · word ")" ∕ Assoc ？ · Prod
    ∷ Assoc ⟶ word "left" ∕ word "right" ∕ word "assoc" ∕ word "non-assoc"
    ∷ Prod ⟶ word "bracket" ？ · (LId · word ":") ？ · Sym *
    ∷ Sym ⟶ (Near · (word "!<<" ∕ word "<<")) ？ · Rep · ((word "!>>" ∕ word ">>") · Near ∕ word "\\" · UId) *
    · (LId · ! word ":") ？
    ∷ Near ⟶ Chars ∕ Str
    ∷ Rep ⟶ word "{" · Atom · Str · word "}" · (word "*" ∕ word "+") ∕ Atom · (word "*" ∕ word "+" ∕ word "?") ？
    ∷ Atom ⟶ Str ∕ Chars ∕ UId
    ∷ Chars ⟶ word "!" ？ · Class
    ∷ []

-- statements
abbrev pub statements : Grammar
statements =
    Stat ⟶ Block ∕ If ∕ Switch ∕ Loop ∕ Solve ∕ Try ∕ Visit · word ";" ？ ∕ Simple
    ∷ Block ⟶ word "{" · Stat * · word "}"
    ∷ If ⟶ word "if" · word "(" · Conds · word ")" · Stat · (word "else" · Stat) ？
    ∷ Switch ⟶ word "switch" · word "(" · Exp · word ")" · word "{" · Case + · word "}"
    ∷ Case ⟶ word "default" · word ":" · Stat +
    ∕ word "case" · Pat · word "=>" · Exp · (word "when" · Conds) ？
    ∕ word "case" · Pat · word ":" · Stat +
    ∕ word "case" · Plain · word "=>" · Exp · (word "when" · Conds) ？
    ∕ word "case" · Plain · word ":" · Stat +
    ∷ Loop ⟶ word "for" · word "(" · Conds · word ")" · Stat
    ∕ word "while" · word "(" · Conds · word ")" · Stat
    ∕ word "do" · Stat · word "while" · word "(" · Conds · word ")" · word ";"
    ∷ Solve ⟶ word "solve" · word "(" · Id · (word "," · Id) * · word ")" · Stat
    ∷ Try ⟶ word "try" · Stat · (Catch + · Finally ？ ∕ Finally)
    ∷ Catch ⟶ word "catch" · (word ":" · Stat ∕ Pat · word ":" · Stat ∕ Plain · word ":" · Stat)
    ∷ Finally ⟶ word "finally" · Stat
    ∷ Simple ⟶ word "return" · word ";"
    ∕ word "return" · Rhs
    ∕ word "insert" · Exp · word ";"
    ∕ word "append" · Exp · word ";"
    ∕ word "throw" · Exp · word ";"
    ∕ word "fail" · word ";"
    ∕ word "break" · word ";"
    ∕ word "continue" · word ";"
    ∕ word ";"
    ∕ «Type» · Id · word "=" · Rhs
    ∕ word "<" · Id · (word "," · Id) * · word ">" · word "=" · Rhs
    ∕ Id · (word "[" · Exp · word "]" ∕ word "." · Id) * · (word "=" ∕ word "+=" ∕ word "-=" ∕ word "*=" ∕ word "/=" ∕ word "&=") · Rhs
    ∕ Exp · word ";"
    ∷ Rhs ⟶ Loop ∕ Exp · word ";"
    ∷ Conds ⟶ Exp · (word "," · Exp) *
    ∷ []

-- expressions
abbrev pub expressions : Grammar
expressions =
    Exp ⟶ Imp · (word "?" · Exp · (word ":" · Exp) ？) ？
    ∷ Imp ⟶ Or · ((word "==>" ∕ word "<==>") · Or) ？
    ∷ Or ⟶ And · (word "||" · And) *
    ∷ And ⟶ Test · (word "&&" · Test) *
    ∷ Test ⟶ Pat · (word ":=" ∕ word "!:=" ∕ word "<-") · Cmp ∕ Cmp
    ∷ Cmp ⟶ Rel · ((word "==" ∕ word "!=") · Rel) ？
    ∷ Rel ⟶ Add · ((word "<=" ∕ word ">=" ∕ word "<" ∕ word ">" ∕ word "in" ∕ word "notin") · Add ∕ word "is" · Id) ？
    ∷ Add ⟶ Mul · ((word "+" ∕ word "-" ∕ word "&") · Mul) *
    ∷ Mul ⟶ Com · ((word "*" ∕ word "/" ∕ word "%") · Com) *
    ∷ Com ⟶ Un · (word "o" · Un) *
    ∷ Un ⟶ word "!" · Un ∕ word "-" · Un ∕ Prim · Suf *
    ∷ Suf ⟶ word "[" · Sub · word "]" ∕ word "." · Id ∕ word "+" · ! Starter ∕ word "*" · ! Starter
    ∷ Sub ⟶ word ".." · Exp ？ ∕ Exp · (word ".." · Exp ？) ？
    ∷ Starter ⟶ Id ∕ Int ∕ Str ∕ StrHead ∕ Loc ∕ word "(" ∕ word "[" ∕ word "{" ∕ word "<" ∕ word "-" ∕ word "!" ∕ word "true"
    ∕ word "false" ∕ word "it" ∕ word "visit" ∕ Strategy
    ∷ Prim ⟶ Int ∕ Str
    ∕ StrHead · Add · (StrMid · Add) * · StrTail
    ∕ Loc ∕ word "true" ∕ word "false" ∕ word "it" ∕ Visit ∕ Concrete ∕ Paren ∕ List ∕ Set
    ∕ word "<" · Add · (word "," · Add) * · word ">"
    ∕ Id · word "(" · (Arg · (word "," · Arg) *) ？ · word ")"
    ∕ Id
    ∷ Arg ⟶ word "#" · (word "start" · word "[" · UId · word "]" ∕ UId) ∕ Exp
    ∷ Visit ⟶ Strategy ？ · word "visit" · word "(" · Exp · word ")" · word "{" · Case + · word "}"
    ∷ Strategy ⟶ word "innermost" ∕ word "outermost" ∕ word "top-down" ∕ word "top-down-break" ∕ word "bottom-up"
    ∕ word "bottom-up-break"
    ∷ Concrete ⟶ word "(" · UId · word ")" · Back
    ∷ Paren ⟶ word "("
    · (word ")" ∕ Exp · (word ")" ∕ word "|" · Exp · word "|" · Conds · word ")"
    ∕ word ":" · Exp · (word "|" · Conds · word ")" ∕ (word "," · Exp · word ":" · Exp) * · word ")")))
    ∷ List ⟶ word "["
    · (word "]" ∕ Elem · (word ".." · Exp · word "]" ∕ word "|" · Conds · word "]" ∕ word "]"
    ∕ word "," · Elem · (word ".." · Exp · word "]" ∕ (word "," · Elem) * · (word "|" · Conds) ？ · word "]")))
    ∷ Set ⟶ word "{" · (word "}" ∕ Elem · (word "," · Elem) * · (word "|" · Conds) ？ · word "}")
    ∷ Elem ⟶ word "*" · Add ∕ Exp
    ∷ []

-- patterns
abbrev pub patterns : Grammar
patterns =
    Pat ⟶ «Type» · Id · word ":" · Pat ∕ Id · word ":" · Pat ∕ Plain
    ∷ Plain ⟶ word "!" · Pat
    ∕ word "/" · Pat
    ∕ Concrete
    ∕ Id · word "(" · (Pat · (word "," · Pat) *) ？ · word ")"
    ∕ «Type» · (Id ∕ word "_")
    ∕ word "[" · (Star · (word "," · Star) *) ？ · word "]"
    ∕ word "{" · (Star · (word "," · Star) *) ？ · word "}"
    ∕ word "<" · Pat · (word "," · Pat) * · word ">"
    ∕ word "-" · Int
    ∕ Int ∕ Str ∕ Loc ∕ word "true" ∕ word "false" ∕ word "_" ∕ Id
    ∷ Star ⟶ word "*" · word "_" ∕ word "*" · «Type» · Id ∕ word "*" · Id ∕ Pat
    ∷ []

abbrev pub grammar : Grammar
grammar = modules ++ syntax_definitions ++ statements ++ expressions ++ patterns
