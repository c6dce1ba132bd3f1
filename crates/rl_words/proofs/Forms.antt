-- How `clap` reads each form of word.
use Rattle.std.proofs.Common.{◌≡◌, ◌∙◌, ◌++◌, ◌&&◌, ◌||◌, ◌<◌, ◌≤◌, ◌==◌, ◌⊎◌, ℕ, Bool, true, false, cond, List, [], ◌∷◌, length, drop, suc, Option, Some, None, codes, refl, sym, subst, ap, ap₂, inl, inr, arith, true≢false}
use Rattle.std.proofs.lemmas.Bool.Decides.{Decides-eqb, nat_tests}
use Rattle.std.proofs.lemmas.List.{take_all, append_assoc}
use Rattle.std.proofs.lemmas.List.Sums.{split_at_first, passes_at_first}
use Rattle.std.proofs.lemmas.Slice.Eq.{bytes_eq-Decides, starts_is}
use Rattle.std.proofs.lemmas.Str.{encodes-chars}
use Rattle.std.specs.List.{before_first, after_first, position_or_len, starts_with}
use Rattle.std.specs.Prelude.{nat_eq, nat_lt}
use Rattle.std.proofs.Math.Utf8.{encodes}
use Rattle.std.specs.Str.{bytes_eq, chars, IsUtf8}
use Rattle.clap.specs.Lexer.{long_of, short_of, name_and_value}
use Rattle.clap.specs.Walk.{Rule, Text, arg_by_long}
use Rattle.rl_words.specs.Words.{Root, Steps, Part, ends, waits, carries, plain, unknown, behind, is_value, part_by_value, part_of, plain_or_unknown}
use Rattle.rl_words.proofs.Command.{rules, id_of, option_built}

-- the word stands for no option, as a long or as a short one
abbrev pub IsUnknown : Text → Type 0
IsUnknown word = ((p : Text × Option Text) × (long_of word ≡ Some p) × (arg_by_long rules p.0 ≡ None))
    ⊎ ((long_of word ≡ None) × ((x : ℕ) × (xs : Text) × (c : ℕ) × (cs : List ℕ) × (short_of word ≡ Some (x ∷ xs)) × (chars (x ∷ xs) ≡ c ∷ cs)))

-- what `clap` reads of a word
abbrev pub Reads : Part → Text → Type 0
Reads ends word = (bytes_eq word (45 ∷ 45 ∷ []) ≡ true) × (is_value word ≡ false)
Reads (waits flag) word = (bytes_eq word (45 ∷ 45 ∷ []) ≡ false) × (long_of word ≡ Some (id_of flag, None)) × (is_value word ≡ false)
Reads (carries flag value) word = (bytes_eq word (45 ∷ 45 ∷ []) ≡ false) × (long_of word ≡ Some (id_of flag, Some value)) × (is_value word ≡ false)
Reads plain word = (bytes_eq word (45 ∷ 45 ∷ []) ≡ false) × (long_of word ≡ None) × (short_of word ≡ None)
Reads unknown word = (bytes_eq word (45 ∷ 45 ∷ []) ≡ false) × IsUnknown word × (is_value word ≡ false)

-- ---- names of options

same : (x y : Text) → bytes_eq x y ≡ true → x ≡ y
same x y = (bytes_eq-Decides x y).0

-- a text that is not the name, and does not begin with the name and `=`, has another name before its first `=`
names_apart : (name rest : Text) → bytes_eq rest name ≡ false → starts_with nat_eq rest (name ++ 61 ∷ []) ≡ false
    → bytes_eq name (before_first (λ x. x == 61) rest) ≡ false
names_apart name rest other front = go (bytes_eq name (before_first (λ x. x == 61) rest)) refl
  where
    cut : name ≡ before_first (λ x. x == 61) rest → position_or_len (λ x. x == 61) rest < length rest → ⊥
    cut is lt =
        let at = (Decides-eqb _ 61).0 (passes_at_first (λ x. x == 61) rest 0 lt) in
        let parts : rest ≡ name ++ (61 ∷ after_first (λ x. x == 61) rest) =
        split_at_first (λ x. x == 61) rest 0 lt ∙ ap₂ (λ (b : Text) (c : ℕ). b ++ (c ∷ after_first (λ x. x == 61) rest)) (sym is) at in
        let begins : starts_with nat_eq rest (name ++ 61 ∷ []) ≡ true =
        (starts_is Decides-eqb rest (name ++ 61 ∷ []) _ refl).1 (after_first (λ x. x == 61) rest) (parts ∙ sym (append_assoc name (61 ∷ []) _)) in
        true≢false (sym begins ∙ front)

    whole : name ≡ before_first (λ x. x == 61) rest → length rest ≤ position_or_len (λ x. x == 61) rest → ⊥
    whole is le =
        let all : name ≡ rest = is ∙ take_all (position_or_len (λ x. x == 61) rest) rest le in
        true≢false (sym ((bytes_eq-Decides rest name).1 (sym all)) ∙ other)

    go : (b : Bool) → bytes_eq name (before_first (λ x. x == 61) rest) ≡ b → b ≡ false
    go false e = refl
    go true e = let is = same name _ e in let no = cut is in let nor = whole is in absurd (omega arith)

abbrev by_names : Bool → Bool → Option Rule
by_names root steps = cond (true && (root || false)) (Some (option_built (codes "root"))) (cond (true && (steps || false)) (Some (option_built (codes "steps"))) None)

-- no option has another name
pub no_option : (name : Text) → bytes_eq (codes "root") name ≡ false → bytes_eq (codes "steps") name ≡ false → arg_by_long rules name ≡ None
no_option name root steps = ap₂ by_names root steps

-- ---- texts

one_char : (bs : Text) → encodes (45 ∷ []) ≡ bs → length bs ≡ 1
unfolding lib.Utf8.encode
one_char bs e = ap length (sym e)

-- a text that goes on behind its first `-` has a character there
char_behind : (x : ℕ) (xs : Text) → IsUtf8 (45 ∷ x ∷ xs) → (c : ℕ) × (cs : List ℕ) × (chars (x ∷ xs) ≡ c ∷ cs)
unfolding chars
char_behind x xs text = go (chars (x ∷ xs)) refl
  where
    go : (cs : List ℕ) → chars (x ∷ xs) ≡ cs → (c : ℕ) × (ds : List ℕ) × (cs ≡ c ∷ ds)
    go (c ∷ ds) e = (c, ds, refl)
    go [] e =
        let both : encodes (45 ∷ []) ≡ 45 ∷ x ∷ xs = ap (λ l. encodes (45 ∷ l)) (sym e) ∙ encodes-chars (45 ∷ x ∷ xs) text in
        let short = one_char _ both in
        absurd (omega arith)

-- ---- the form of a word

longer : (n : ℕ) → nat_lt 1 (suc (suc n)) ≡ true
longer n = grind (arith, nat_tests)

begins : (word front : Text) → starts_with nat_eq word front ≡ true → word ≡ front ++ drop (length front) word
begins word front e = (starts_is Decides-eqb word front _ refl).0 e

-- a word that begins with `--` and more, and is no option
long_unknown : (x : ℕ) (xs : Text)
    → bytes_eq (45 ∷ 45 ∷ x ∷ xs) (codes "--root") ≡ false → bytes_eq (45 ∷ 45 ∷ x ∷ xs) (codes "--steps") ≡ false
    → starts_with nat_eq (45 ∷ 45 ∷ x ∷ xs) (codes "--root=") ≡ false → starts_with nat_eq (45 ∷ 45 ∷ x ∷ xs) (codes "--steps=") ≡ false
    → Reads unknown (45 ∷ 45 ∷ x ∷ xs)
long_unknown x xs root steps roots stepss = (
  refl,
  inl (name_and_value (x ∷ xs), refl, no_option (before_first (λ y. y == 61) (x ∷ xs)) (names_apart (codes "root") (x ∷ xs) root roots) (names_apart (codes "steps") (x ∷ xs) steps stepss)),
  refl,
)

-- a word that begins with `-` and no second one
short_unknown : (x : ℕ) (xs : Text) → IsUtf8 (45 ∷ x ∷ xs) → (x == 45) ≡ false → Reads unknown (45 ∷ x ∷ xs)
short_unknown x xs text other =
    let long : long_of (45 ∷ x ∷ xs) ≡ None = rw other refl in
    let short : short_of (45 ∷ x ∷ xs) ≡ Some (x ∷ xs) = rw other refl in
    let end : bytes_eq (45 ∷ x ∷ xs) (45 ∷ 45 ∷ []) ≡ false = rw other refl in
    let first = char_behind x xs text in
    (end, inr (long, (x, xs, first.0, first.1, short, first.2)), refl)

-- the word is text, not `--`, and no option
abbrev IsNoOption : Text → Type 0
IsNoOption word = IsUtf8 word × (bytes_eq word (codes "--") ≡ false)
    × (bytes_eq word (codes "--root") ≡ false) × (bytes_eq word (codes "--steps") ≡ false)
    × (starts_with nat_eq word (codes "--root=") ≡ false) × (starts_with nat_eq word (codes "--steps=") ≡ false)

abbrev ReadsOther : Text → Type 0
ReadsOther word = IsNoOption word → Reads (plain_or_unknown word) word

-- behind `-`, and behind `--`
second_dash : (ds : Text) → IsNoOption (45 ∷ 45 ∷ ds) → Reads unknown (45 ∷ 45 ∷ ds)
second_dash [] h = absurd (true≢false h.1)
second_dash (x ∷ xs) h = long_unknown x xs h.2 h.3 h.4 h.5

second_other : (d : ℕ) (ds : Text) (b : Bool) → (d == 45) ≡ b → IsNoOption (45 ∷ d ∷ ds) → Reads unknown (45 ∷ d ∷ ds)
second_other d ds false e h = short_unknown d ds h.0 e
second_other d ds true e h =
    let is : d ≡ 45 = (Decides-eqb d 45).0 e in
    subst (λ x. IsNoOption (45 ∷ x ∷ ds) → Reads unknown (45 ∷ x ∷ ds)) (sym is) (second_dash ds) h

first_dash : (cs : Text) → ReadsOther (45 ∷ cs)
first_dash [] h = (refl, refl, refl)
first_dash (d ∷ ds) h =
    subst (λ b. Reads (cond b unknown plain) (45 ∷ d ∷ ds)) (sym (longer (length ds))) (second_other d ds (d == 45) refl h)

reads_other : (word : Text) → ReadsOther word
reads_other [] h = (refl, refl, refl)
reads_other (c ∷ cs) h = by_first (c == 45) refl
  where
    by_first : (b : Bool) → (c == 45) ≡ b → Reads (plain_or_unknown (c ∷ cs)) (c ∷ cs)
    by_first false e = rw e (rw e refl, rw e refl, rw e refl)
    by_first true e = subst ReadsOther (ap (λ x. x ∷ cs) (sym ((Decides-eqb c 45).0 e))) (first_dash cs) h

pub reads : (word : Text) → IsUtf8 word → Reads (part_of word) word
reads word text = by_end (bytes_eq word (codes "--")) refl
  where
    by_steps_value : (b : Bool) → starts_with nat_eq word (codes "--steps=") ≡ b
        → bytes_eq word (codes "--") ≡ false → bytes_eq word (codes "--root") ≡ false → bytes_eq word (codes "--steps") ≡ false
        → starts_with nat_eq word (codes "--root=") ≡ false
        → Reads (part_by_value None (cond b (Some (drop (length (codes "--steps=")) word)) None) word) word
    by_steps_value true e end root steps roots =
        let is = begins word (codes "--steps=") e in
        (end, ap long_of is, ap is_value is)
    by_steps_value false e end root steps roots = reads_other word (text, end, root, steps, roots, e)

    by_root_value : (b : Bool) → starts_with nat_eq word (codes "--root=") ≡ b
        → bytes_eq word (codes "--") ≡ false → bytes_eq word (codes "--root") ≡ false → bytes_eq word (codes "--steps") ≡ false
        → Reads (part_by_value (cond b (Some (drop (length (codes "--root=")) word)) None) (behind (codes "--steps=") word) word) word
    by_root_value true e end root steps =
        let is = begins word (codes "--root=") e in
        (end, ap long_of is, ap is_value is)
    by_root_value false e end root steps = by_steps_value (starts_with nat_eq word (codes "--steps=")) refl end root steps e

    by_steps : (b : Bool) → bytes_eq word (codes "--steps") ≡ b → bytes_eq word (codes "--") ≡ false → bytes_eq word (codes "--root") ≡ false
        → Reads (cond b (waits Steps) (part_by_value (behind (codes "--root=") word) (behind (codes "--steps=") word) word)) word
    by_steps true e end root = let is = same word _ e in (end, ap long_of is, ap is_value is)
    by_steps false e end root = by_root_value (starts_with nat_eq word (codes "--root=")) refl end root e

    by_root : (b : Bool) → bytes_eq word (codes "--root") ≡ b → bytes_eq word (codes "--") ≡ false
        → Reads (cond b (waits Root) (cond (bytes_eq word (codes "--steps")) (waits Steps) (part_by_value (behind (codes "--root=") word) (behind (codes "--steps=") word) word))) word
    by_root true e end = let is = same word _ e in (end, ap long_of is, ap is_value is)
    by_root false e end = by_steps (bytes_eq word (codes "--steps")) refl end e

    by_end : (b : Bool) → bytes_eq word (codes "--") ≡ b
        → Reads (cond b ends (cond (bytes_eq word (codes "--root")) (waits Root) (cond (bytes_eq word (codes "--steps")) (waits Steps) (part_by_value (behind (codes "--root=") word) (behind (codes "--steps=") word) word)))) word
    by_end true e = let is = same word _ e in (e, ap is_value is)
    by_end false e = by_root (bytes_eq word (codes "--root")) refl e
