-- Escapes, the holes of fragments, and locations.
use Rattle.std.specs.Prelude.{ℕ, ◌+◌, ◌-◌, Bool, not, ◌&&◌, ◌||◌, if◌then◌else◌, ◌==◌, nat_lt, List, take, drop, slice_index, codes}
use Rattle.std.specs.List.{prefix_len}
use Rattle.std.specs.Int.{is_in_range}
use Rattle.std.specs.Char.{is_ascii_hexdigit}
use Rattle.rl_tokens.specs.Set.{is_in}
use Rattle.rl_tokens.specs.declared.set.Set.TheVariants as set
use Rattle.rl_tokens.specs.Word.{begins, is_name}

-- the first two digits of a surrogate, which are the numbers from D800 to DFFF
abbrev pub is_surrogate : ℕ → ℕ → Bool
is_surrogate first second =
    (first == 68 || first == 100) && (is_in_range 56 57 second || is_in_range 65 70 second || is_in_range 97 102 second)

-- four digits of base 16 stand behind the first character
abbrev pub are_hex_digits : List ℕ → Bool
are_hex_digits text =
    is_ascii_hexdigit (slice_index text 1) && is_ascii_hexdigit (slice_index text 2)
    && is_ascii_hexdigit (slice_index text 3) && is_ascii_hexdigit (slice_index text 4)

-- the digits behind a `u` write a character
abbrev pub is_unicode : List ℕ → Bool
is_unicode text = are_hex_digits text && not (is_surrogate (slice_index text 1) (slice_index text 2))

-- the characters that make an escape with a backslash: " ' \ < > n t r b f
abbrev pub is_mark : ℕ → Bool
is_mark c = c == 34 || c == 39 || c == 92 || c == 60 || c == 62 || c == 110 || c == 116 || c == 114 || c == 98 || c == 102

-- how many characters of the escape stand behind the backslash; 0 where there is none
unfoldable pub escape_len : List ℕ → ℕ
escape_len text = if is_mark (slice_index text 0) then 1 else (if slice_index text 0 == 117 && is_unicode text then 5 else 0)

-- the same inside a character class, where the space, [, ] and - have escapes too
unfoldable pub class_escape_len : List ℕ → ℕ
class_escape_len text =
    let c = slice_index text 0 in
    if c == 32 || c == 91 || c == 93 || c == 45 then 1 else escape_len text

-- the same inside a fragment, where the backquote, \, < and > have escapes
unfoldable pub fragment_escape_len : List ℕ → ℕ
fragment_escape_len text =
    let c = slice_index text 0 in
    if c == 96 || c == 92 || c == 60 || c == 62 then 1 else 0

-- how many characters of the hole stand behind its `<`: blanks or none, a sort, blanks, a name, blanks or none
-- and `>`; 0 where there is none
unfoldable pub hole_len : List ℕ → ℕ
hole_len text =
    let sort = prefix_len (is_in set.Blank) text in
    let gap = sort + prefix_len (is_in set.Word) (drop sort text) in
    let name = gap + prefix_len (is_in set.Blank) (drop gap text) in
    let end = name + prefix_len (is_in set.Word) (drop name text) in
    let close = end + prefix_len (is_in set.Blank) (drop end text) in
    let named = nat_lt gap name && is_name (take (end - name) (drop name text)) in
    if is_in set.Upper (slice_index text sort) && named && slice_index text close == 62 then close + 1 else 0

-- how many characters of a location `|cwd:///path|` stand at the front; 0 where there is none
unfoldable pub path_location_len : List ℕ → ℕ
path_location_len text =
    let end = 8 + prefix_len (is_in set.Path) (drop 8 text) in
    if slice_index text end == 124 then end + 1 else 0

-- the same with `|unknown:///|`
unfoldable pub location_len : List ℕ → ℕ
location_len text =
    if begins (codes "|unknown:///|") text then 13
    else (if begins (codes "|cwd:///") text then path_location_len text else 0)
