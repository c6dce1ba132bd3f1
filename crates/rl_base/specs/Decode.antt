-- Reading a text from its bytes.
use Rattle.std.specs.Prelude.{◌≡◌, ℕ, List, length, take, if◌then◌else◌}
use Rattle.std.specs.Prelude.{Result, Ok, Err}
use Rattle.std.specs.Str.{chars, is_utf8}
use Rattle.std.specs.Str.Lossy.{utf8_valid_len}
use Rattle.rl_base.specs.declared.decode.TextFault.{TextFault}
use Rattle.rl_base.specs.declared.decode.TextFault.TheVariants.{NotUtf8, OutOfMemory}

-- the characters that the bytes spell in UTF-8, or how many their longest valid front spells
abbrev pub text_of : List ℕ → Result (List ℕ) ℕ
text_of bytes =
    if is_utf8 bytes then Ok (chars bytes)
    else Err (length (chars (take (utf8_valid_len bytes) bytes)))

-- the answer is that one, unless memory is wanting
abbrev pub Reads : Result (List ℕ) ℕ → Result (List ℕ) TextFault → Type 0
Reads text (Ok cs) = text ≡ Ok cs
Reads text (Err (NotUtf8 n)) = text ≡ Err n
Reads text (Err OutOfMemory) = Unit {0}
