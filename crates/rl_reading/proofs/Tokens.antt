-- What a token says is what its terminal may say.
use Rattle.std.proofs.Common.{◌≡◌, ℕ, zero, suc, ◌==◌, ◌&&◌, ◌||◌, Bool, true, false, List, [], ◌∷◌, Some, refl, sym, ap, ◌∙◌, subst, if◌then◌else◌, get_or, pos, codes}
use Rattle.std.specs.Prelude.{slice_get}
use Rattle.std.proofs.lemmas.Slice.Eq.{bytes_eq-Decides}
use Rattle.std.proofs.lemmas.Bool.{eqb-true}
use Rattle.std.specs.Str.{bytes_eq}
use Rattle.rl_base.specs.declared.place.Place.{Place}
use Rattle.rl_syntax.specs.declared.identifier.Identifier.{Identifier}
use Rattle.rl_tokens.specs.Token as lexed
use Rattle.rl_tokens.specs.Token.{kinds_of, texts_of}
use Rattle.rl_tokens.specs.Terminal.{terminals}
use Rattle.rl_tokens.specs.declared.terminal.TheConstants as terminal
use Rattle.rl_phrase.specs.Terminals.{is_terminal, is_terminal_of, is_word}
use Rattle.rl_literal.specs.Class.{class_in}
use Rattle.rl_literal.specs.Fragment.{fragment_in}
use Rattle.rl_literal.specs.Integer.{integer_in}
use Rattle.rl_literal.specs.Location.{path_in}
use Rattle.rl_literal.specs.Strings.{string_in}
use Rattle.rl_forms.specs.declared.form.Form.{Form}
use Rattle.rl_forms.specs.declared.form.Form.TheVariants as f
use Rattle.rl_tokens.proofs.KindLemmas.{is_terminal_alone}
use Rattle.rl_reader.specs.Source.{text_at, place_at}
use Rattle.rl_reader.specs.Token.{identifier_at, literal_of, of_kind, form_of_token}
use Rattle.rl_reading.proofs.Derivations.{Kind, NamedWords, kind_by, kind_of, is_named_word, TokenSaid, token_form}

-- what a token of this kind says, by the tests in turn
abbrev form_by : (name text piece integer location ranges fragment : Bool) → ℕ → Place → List ℕ → Form
form_by name text_test piece integer location ranges fragment kind place text =
    if text_test then f.Text (string_in text)
    else (if piece then f.TextPiece (string_in text)
    else (if integer then f.Integer (pos (integer_in text))
    else (if location then f.Location (path_in text)
    else (if ranges then f.Ranges (class_in text)
    else (if fragment then f.Pieces place (fragment_in place text) else f.Word place kind)))))

abbrev pub Says : ℕ → Form → Kind → Type 0
Says number form kind = (said : TokenSaid kind) × (form ≡ token_form number kind said)

by_tests : (any name text_test piece integer location ranges fragment word : Bool) → (any || word) ≡ false → (number : ℕ) (identifier : Identifier) (place : Place) (text : List ℕ)
    → Says number (if name then f.Name identifier else form_by name text_test piece integer location ranges fragment number place text) (kind_by any name text_test piece integer location ranges fragment word)
by_tests true name t p i l r g w e number identifier place text = absurd cc
by_tests false true t p i l r g w e number identifier place text = (identifier, refl)
by_tests false false true p i l r g w e number identifier place text = (string_in text, refl)
by_tests false false false true i l r g w e number identifier place text = (string_in text, refl)
by_tests false false false false true l r g w e number identifier place text = (pos (integer_in text), refl)
by_tests false false false false false true r g w e number identifier place text = (path_in text, refl)
by_tests false false false false false false true g w e number identifier place text = (class_in text, refl)
by_tests false false false false false false false true w e number identifier place text = ((place, fragment_in place text), refl)
by_tests false false false false false false false false true e number identifier place text = absurd cc
by_tests false false false false false false false false false e number identifier place text = (place, refl)

nat_same : (a b : ℕ) → (a == b) ≡ true → a ≡ b
nat_same a b e = eqb-true a b e

regrouped : (a b c d e f : Bool) → (a || b || c || d || e || f) ≡ false → (a || (b || c || d || e || f)) ≡ false
regrouped true b c d e f h = absurd cc
regrouped false b c d e f h = h

kind_is : (tokens : List lexed.Token) (token : ℕ) (t : lexed.Token) → slice_get tokens token ≡ Some t → get_or (kinds_of tokens) token terminal.END ≡ t.kind
kind_is [] token t e = absurd cc
kind_is (x ∷ xs) zero t e =
    let same : x ≡ t = cc in
    ap (λ (y : lexed.Token). y.kind) same
kind_is (x ∷ xs) (suc n) t e = kind_is xs n t e

text_is : (tokens : List lexed.Token) (token : ℕ) (t : lexed.Token) → slice_get tokens token ≡ Some t → get_or (texts_of tokens) token [] ≡ t.text
text_is [] token t e = absurd cc
text_is (x ∷ xs) zero t e =
    let same : x ≡ t = cc in
    ap (λ (y : lexed.Token). y.text) same
text_is (x ∷ xs) (suc n) t e = text_is xs n t e

-- a text with its tokens
module _ (module_number : ℕ) (text : List ℕ) (tokens : List lexed.Token) where
  abbrev place : ℕ → Place
  place token = place_at (record { number = module_number; text = text; tokens = tokens }) token

  abbrev spelled : ℕ → List ℕ
  spelled token = text_at (record { number = module_number; text = text; tokens = tokens }) token

  abbrev identifier : ℕ → Identifier
  identifier token = identifier_at (record { number = module_number; text = text; tokens = tokens }) token

  abbrev form_by_kind : ℕ → ℕ → Form
  form_by_kind kind token = of_kind kind (record { number = module_number; text = text; tokens = tokens }) token

  abbrev pub token_form_at : ℕ → Form
  token_form_at token = form_of_token (record { number = module_number; text = text; tokens = tokens }) token

  -- a token whose kind is the terminal
  own_kind : (token number : ℕ) → is_terminal_alone number ≡ false → Says number (form_by_kind number token) (kind_of number)
  unfolding literal_of
  own_kind token number e =
      by_tests (number == terminal.ID) ((number == terminal.UPPER_ID) || (number == terminal.LOWER_ID)) (number == terminal.STRING)
      ((number == terminal.STRING_HEAD) || (number == terminal.STRING_MIDDLE) || (number == terminal.STRING_TAIL))
      (number == terminal.INTEGER) (number == terminal.LOCATION) (number == terminal.CHARACTER_CLASS) (number == terminal.FRAGMENT)
      (is_named_word number)
      (regrouped (number == terminal.ID) (number == terminal.LEFT) (number == terminal.RIGHT) (number == terminal.ASSOC) (number == terminal.BRACKET) (number == terminal.START) e)
      number (identifier token) (place token) (spelled token)

  name_form : (token kind : ℕ) → ((kind == terminal.UPPER_ID) || (kind == terminal.LOWER_ID)) ≡ true → form_by_kind kind token ≡ f.Name (identifier token)
  name_form token kind e = ap (λ b. if b then f.Name (identifier token) else literal_of kind (place token) (spelled token)) e

  -- a name where any name is wanted
  any_name : (token kind number : ℕ) → (number == terminal.ID) ≡ true → ((kind == terminal.UPPER_ID) || (kind == terminal.LOWER_ID)) ≡ true → Says number (form_by_kind kind token) (kind_of number)
  any_name token kind number e n =
      let same : terminal.ID ≡ number = sym (nat_same number terminal.ID e) in
      subst (λ k. Says k (form_by_kind kind token) (kind_of k)) same (identifier token, name_form token kind n)

  -- a name that is this word, where the word is wanted
  named_word : (token kind number : ℕ) → (word : ℕ) → get_or terminals word [] ≡ spelled token → kind_of word ≡ NamedWords → kind ≡ terminal.LOWER_ID → number ≡ word
      → Says number (form_by_kind kind token) (kind_of number)
  named_word token kind number word name named k e =
      let form : form_by_kind kind token ≡ f.Name (identifier token) = ap (λ n. form_by_kind n token) k in
      let said : Says word (f.Name (identifier token)) NamedWords = (place token, ap (λ text. f.Name (record { place = place token; name = text; number = 0 })) (sym name)) in
      let at_word : Says word (f.Name (identifier token)) (kind_of word) = subst (λ n. Says word (f.Name (identifier token)) n) (sym named) said in
      let at_number : Says number (f.Name (identifier token)) (kind_of number) = subst (λ n. Says n (f.Name (identifier token)) (kind_of n)) (sym e) at_word in
      subst (λ form. Says number form (kind_of number)) (sym form) at_number

  -- the words that are names, by the tests in turn
  module _ (token kind number : ℕ) (lower : kind ≡ terminal.LOWER_ID) where
    word_by : (left right assoc bracket start : Bool) → (number == terminal.LEFT) ≡ left → (number == terminal.RIGHT) ≡ right → (number == terminal.ASSOC) ≡ assoc
        → (number == terminal.BRACKET) ≡ bracket → (number == terminal.START) ≡ start
        → (if left then bytes_eq (spelled token) (codes "left")
        else (if right then bytes_eq (spelled token) (codes "right")
        else (if assoc then bytes_eq (spelled token) (codes "assoc")
        else (if bracket then bytes_eq (spelled token) (codes "bracket")
        else (if start then bytes_eq (spelled token) (codes "start") else false))))) ≡ true
        → Says number (form_by_kind kind token) (kind_of number)
    word_by true r a b s l' r' a' b' s' e = named_word token kind number terminal.LEFT (sym ((bytes_eq-Decides (spelled token) (codes "left")).0 e)) refl lower (nat_same number terminal.LEFT l')
    word_by false true a b s l' r' a' b' s' e = named_word token kind number terminal.RIGHT (sym ((bytes_eq-Decides (spelled token) (codes "right")).0 e)) refl lower (nat_same number terminal.RIGHT r')
    word_by false false true b s l' r' a' b' s' e = named_word token kind number terminal.ASSOC (sym ((bytes_eq-Decides (spelled token) (codes "assoc")).0 e)) refl lower (nat_same number terminal.ASSOC a')
    word_by false false false true s l' r' a' b' s' e = named_word token kind number terminal.BRACKET (sym ((bytes_eq-Decides (spelled token) (codes "bracket")).0 e)) refl lower (nat_same number terminal.BRACKET b')
    word_by false false false false true l' r' a' b' s' e = named_word token kind number terminal.START (sym ((bytes_eq-Decides (spelled token) (codes "start")).0 e)) refl lower (nat_same number terminal.START s')
    word_by false false false false false l' r' a' b' s' e = absurd cc

  -- a token of the kind `kind` that is the terminal `number`
  by_match : (token kind number : ℕ) (own any name lower word : Bool) → is_terminal_alone kind ≡ false
      → (kind == number) ≡ own → (number == terminal.ID) ≡ any → ((kind == terminal.UPPER_ID) || (kind == terminal.LOWER_ID)) ≡ name → (kind == terminal.LOWER_ID) ≡ lower
      → is_word (spelled token) number ≡ word → (own || (any && name) || (lower && word)) ≡ true
      → Says number (form_by_kind kind token) (kind_of number)
  by_match token kind number true any name lower word real o a n l w e =
      subst (λ k. Says k (form_by_kind kind token) (kind_of k)) (nat_same kind number o) (own_kind token kind real)
  by_match token kind number false true true lower word real o a n l w e = any_name token kind number a n
  by_match token kind number false true false true true real o a n l w e =
      word_by token kind number (nat_same kind terminal.LOWER_ID l) (number == terminal.LEFT) (number == terminal.RIGHT) (number == terminal.ASSOC) (number == terminal.BRACKET) (number == terminal.START) refl refl refl refl refl w
  by_match token kind number false false name true true real o a n l w e =
      word_by token kind number (nat_same kind terminal.LOWER_ID l) (number == terminal.LEFT) (number == terminal.RIGHT) (number == terminal.ASSOC) (number == terminal.BRACKET) (number == terminal.START) refl refl refl refl refl w
  by_match token kind number false true false false word real o a n l w e = absurd cc
  by_match token kind number false true false true false real o a n l w e = absurd cc
  by_match token kind number false false name false word real o a n l w e = absurd cc
  by_match token kind number false false name true false real o a n l w e = absurd cc

  pub token_said : (token number : ℕ) (t : lexed.Token) → slice_get tokens token ≡ Some t → is_terminal_alone t.kind ≡ false → is_terminal t number ≡ true
      → Says number (token_form_at token) (kind_of number)
  unfolding form_of_token
  token_said token number t at real e =
      let kind : get_or (kinds_of tokens) token terminal.END ≡ t.kind = kind_is tokens token t at in
      let text : spelled token ≡ t.text = text_is tokens token t at in
      let here : is_terminal_of t.kind (spelled token) number ≡ true = ap (λ x. is_terminal_of t.kind x number) text ∙ e in
      let found : Says number (form_by_kind t.kind token) (kind_of number) =
      by_match token t.kind number (t.kind == number) (number == terminal.ID) ((t.kind == terminal.UPPER_ID) || (t.kind == terminal.LOWER_ID)) (t.kind == terminal.LOWER_ID)
      (is_word (spelled token) number) real refl refl refl refl refl here in
      subst (λ k. Says number (form_by_kind k token) (kind_of number)) (sym kind) found
