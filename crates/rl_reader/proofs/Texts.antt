-- Faults of a text, and its tokens.
use Rattle.std.proofs.Common.{◌≡◌, ℕ, Bool, true, false, List, Some, None, Result, Ok, Err, sym, ◌∙◌, ap, subst, if◌then◌else◌}
use Rattle.std.specs.Option.{option_map}
use Rattle.std.specs.Str.{chars, is_utf8}
use Rattle.rl_base.specs.Decode.{text_of}
use Rattle.rl_tokens.specs.Token.{Token}
use Rattle.rl_tokens.specs.Fault.{leftmost, told as fault_told}
use Rattle.rl_tokens.specs.Scan.{Answers as TokensAnswer, tokens_in}
use Rattle.rl_tokens.specs.declared.fault.TokenFault.{TokenFault}
use Rattle.rl_tokens.specs.declared.fault.TokenFault.TheVariants.{BadCharacter, OpenString, OpenComment, WideNumber, BadEscape, OutOfMemory}
use Rattle.rl_reader.specs.declared.read.ReadFault.{ReadFault}
use Rattle.rl_reader.specs.declared.read.ReadFault.TheVariants as fault
use Rattle.rl_reader.specs.Source.{place_within}
use Rattle.rl_reader.specs.Read.{Refused, Answers, IsFaultOrMemory, as_fault, first_fault, of_characters, of_fault, of_source, of_text, read_of, valid_front}

-- a fault that is told is the one that reading gives
pub told_fault : (number : ℕ) (path name text : List ℕ) (answer : TokenFault) (r : ReadFault) → TokensAnswer (tokens_in text) (Err answer) → r ≡ as_fault text number answer → Answers (of_text number path name text) (Err r)
unfolding of_text first_fault
told_fault number path name text (BadCharacter o) r a e =
    subst (λ x. Answers (of_text number path name text) (Err x)) (sym e) (ap (λ x. of_fault x number path name text (tokens_in text).tokens) a)
told_fault number path name text (OpenString o) r a e =
    subst (λ x. Answers (of_text number path name text) (Err x)) (sym e) (ap (λ x. of_fault x number path name text (tokens_in text).tokens) a)
told_fault number path name text (OpenComment o) r a e =
    subst (λ x. Answers (of_text number path name text) (Err x)) (sym e) (ap (λ x. of_fault x number path name text (tokens_in text).tokens) a)
told_fault number path name text (WideNumber o) r a e =
    subst (λ x. Answers (of_text number path name text) (Err x)) (sym e) (ap (λ x. of_fault x number path name text (tokens_in text).tokens) a)
told_fault number path name text (BadEscape o) r a e =
    subst (λ x. Answers (of_text number path name text) (Err x)) (sym e) (ap (λ x. of_fault x number path name text (tokens_in text).tokens) a)
told_fault number path name text OutOfMemory r a e = subst (λ x. Answers (of_text number path name text) (Err x)) (sym e) tt

-- a text without faults is read by its tokens
pub no_fault : (number : ℕ) (path name text : List ℕ) (tokens : List Token) → leftmost (tokens_in text).faults ≡ None → tokens ≡ (tokens_in text).tokens → of_text number path name text ≡ of_source (record { number = number; text = text; tokens = tokens }) path name
unfolding of_text first_fault
no_fault number path name text tokens e t =
    ap (λ x. of_fault x number path name text (tokens_in text).tokens) (ap (option_map fault_told) e)
    ∙ ap (λ x. of_source (record { number = number; text = text; tokens = x }) path name) (sym t)

-- characters that were read are those of the bytes
chosen : (b : Bool) (xs : List ℕ) (n : ℕ) (front : List ℕ) → (let r : Result (List ℕ) ℕ = if b then Ok xs else Err n in r ≡ Ok front) → front ≡ xs
chosen true xs n front e = cc
chosen false xs n front e = cc

pub text_is : (bytes front : List ℕ) → text_of bytes ≡ Ok front → front ≡ chars bytes
text_is bytes front e = chosen (is_utf8 bytes) (chars bytes) _ front e

-- bytes that are no text
pub not_utf8 : (number : ℕ) (path name bytes : List ℕ) (n : ℕ) (r : ReadFault) → text_of bytes ≡ Err n → IsFaultOrMemory (place_within (valid_front bytes) number n) 3 r → Answers (read_of number path name bytes) (Err r)
unfolding read_of
not_utf8 number path name bytes n fault.OutOfMemory e h = tt
not_utf8 number path name bytes n (fault.Fault place code) e h =
    ap (of_characters number path name bytes) e ∙ (ap (λ p. Refused p 3) (sym h.0) ∙ ap (Refused place) (sym h.1))

pub utf8 : (number : ℕ) (path name bytes text : List ℕ) → text_of bytes ≡ Ok text → read_of number path name bytes ≡ of_text number path name text
unfolding read_of
utf8 number path name bytes text e = ap (of_characters number path name bytes) e
