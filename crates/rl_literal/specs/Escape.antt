-- Escapes.
use Rattle.std.specs.Prelude.{ℕ, ◌+◌, ◌-◌, ◌*◌, ◌==◌, ◌&&◌, if◌then◌else◌, nat_le, nat_lt, List, drop, slice_index}

-- the value of a digit of base 16, and 0 for other characters
abbrev pub hex_digit : ℕ → ℕ
hex_digit c =
    if nat_le 48 c && nat_le c 57 then c - 48
    else (if nat_le 65 c && nat_le c 70 then c - 55
    else (if nat_le 97 c && nat_le c 102 then c - 87 else 0))

abbrev pub hex_number : List ℕ → ℕ
hex_number text =
    4096 * hex_digit (slice_index text 0) + 256 * hex_digit (slice_index text 1) + 16 * hex_digit (slice_index text 2) + hex_digit (slice_index text 3)

-- a number of a surrogate is no character
abbrev pub character : ℕ → ℕ
character n = if nat_lt n 0xD800 then n else (if nat_lt n 0xE000 then 0xFFFD else n)

-- the character that is written behind a backslash
unfoldable pub escaped : List ℕ → ℕ
escaped text =
    let c = slice_index text 0 in
    if c == 110 then 10
    else (if c == 116 then 9
    else (if c == 114 then 13
    else (if c == 98 then 8
    else (if c == 102 then 12
    else (if c == 117 then character (hex_number (drop 1 text)) else c)))))

-- how many characters write it
abbrev pub escape_length : List ℕ → ℕ
escape_length text = if slice_index text 0 == 117 then 5 else 1
