-- What small tables give, worked out.
use Rattle.std.proofs.Common.{◌≡◌, ℕ, List, [], ◌∷◌, map, true, false, Some, None, codes, refl}
use Rattle.rl_tokens.specs.declared.terminal.TheConstants.{ID, LEFT, LOWER_ID, RIGHT, UPPER_ID}
use Rattle.rl_phrase.specs.Terminals.{Tokens, is_terminal_of}
use Rattle.rl_phrase.specs.declared.table.Rule.{Rule}
use Rattle.rl_phrase.specs.declared.table.Form.{Form}
use Rattle.rl_phrase.specs.declared.table.Form.TheVariants.{Term, Link, Named, Seq, Choice, Star, Plus, Opt, Not}
use Rattle.rl_phrase.specs.Tree.{Token, Node, none, more, only}
use Rattle.rl_phrase.specs.Phr.{Fails, Gives, phr}
use Rattle.rl_phrase.specs.Depth.{first_below}

-- tokens of these kinds, without texts and places
abbrev of_kinds : List ℕ → Tokens
of_kinds kinds = map (λ kind. record { kind = kind; text = []; offset = 0; length = 0 }) kinds

abbrev row : Form → ℕ → ℕ → Rule
row form first count = record { form = form; first = first; count = count }

-- "a" "b" from row 3 on, and "a" again as row 5
abbrev letters : List Rule
letters = row (Term 0) 0 0 ∷ row (Term 1) 0 0 ∷ row (Term 0) 0 0 ∷ []

-- a sequence is a node of its tokens
sequence : phr (of_kinds (0 ∷ 1 ∷ [])) (row Named 3 2 ∷ row Link 0 0 ∷ row Link 0 0 ∷ letters) 3 0 0 ≡ Some (Gives (only (Node 0 0 2 (more (Token 0) (only (Token 1))))) 2 0)
sequence = refl

-- it fails where its second part does
broken : phr (of_kinds (0 ∷ 0 ∷ [])) (row Named 3 2 ∷ row Link 0 0 ∷ row Link 0 0 ∷ letters) 3 0 0 ≡ Some (Fails 1)
broken = refl

-- the first alternative fails at the token 1, and the second one takes "a": both count
choice : phr (of_kinds (0 ∷ 0 ∷ [])) (row Choice 1 2 ∷ row Seq 3 2 ∷ row (Term 0) 0 0 ∷ letters) 4 0 0 ≡ Some (Gives (only (Token 0)) 1 1)
choice = refl

-- !("a" "b") takes nothing where "b" fails at the token 1
negation : phr (of_kinds (0 ∷ 0 ∷ [])) (row Not 3 2 ∷ row Link 0 0 ∷ row Link 0 0 ∷ letters) 3 0 0 ≡ Some (Gives none 0 1)
negation = refl

-- and fails where both are there
refused : phr (of_kinds (0 ∷ 1 ∷ [])) (row Not 3 2 ∷ row Link 0 0 ∷ row Link 0 0 ∷ letters) 3 0 0 ≡ Some (Fails 0)
refused = refl

-- "a"* takes two of them, and the third turn fails at the token 2
repetition : phr (of_kinds (0 ∷ 0 ∷ 1 ∷ [])) (row Star 5 1 ∷ row Link 0 0 ∷ row Link 0 0 ∷ letters) 6 0 0 ≡ Some (Gives (more (Token 0) (only (Token 1))) 2 2)
repetition = refl

-- ("a"?)+ where the first turn takes nothing
one_turn : phr (of_kinds (1 ∷ [])) (row Plus 1 1 ∷ row Opt 5 1 ∷ row Link 0 0 ∷ letters) 5 0 0 ≡ Some (Gives none 0 0)
one_turn = refl

-- a node whose only part is a node is that node
alone : phr (of_kinds (0 ∷ [])) (row Named 1 1 ∷ row Named 5 1 ∷ row Link 0 0 ∷ letters) 5 0 0 ≡ Some (Gives (only (Node 1 0 1 (only (Token 0)))) 1 0)
alone = refl

-- the leftmost node two levels below the top, where there is one
below : first_below (Node 0 0 3 (more (Node 1 0 1 (only (Token 0))) (more (Node 2 1 2 (only (Node 3 1 2 (only (Token 1))))) (only (Node 4 2 3 none))))) 2 ≡ Some 1
below = refl

not_below : first_below (Node 0 0 1 (only (Node 1 0 1 (only (Token 0))))) 2 ≡ None
not_below = refl

-- a name is the terminal of its kind, of every name, and of its word
named_left : map (is_terminal_of LOWER_ID (codes "left")) (LOWER_ID ∷ ID ∷ LEFT ∷ UPPER_ID ∷ RIGHT ∷ []) ≡ true ∷ true ∷ true ∷ false ∷ false ∷ []
named_left = refl
