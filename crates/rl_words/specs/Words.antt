-- The words of the command: `run MODULE [--root DIR] [--steps N]`.
use Rattle.std.specs.Prelude.{ℕ, ◌==◌, ◌&&◌, ◌||◌, ◌^◌, nat_le, nat_lt, nat_eq, not, Bool, true, false, if◌then◌else◌, List, [], ◌∷◌, length, drop, Option, Some, None, option_and_then, option_map, codes}
use Rattle.std.specs.Char.{is_ascii_digit}
use Rattle.std.specs.List.{starts_with, list_all}
use Rattle.std.specs.Option.{option_map_or}
use Rattle.std.specs.Str.{bytes_eq}
use Rattle.std.specs.Str.Parse.{digits_value}
use Rattle.rl_words.specs.declared.words.Asked as asked
use Rattle.rl_words.specs.declared.name.Stage.{Stage}
use Rattle.rl_words.specs.declared.name.Stage.TheVariants.{Begin, Inside, Colon}

-- ---- Options and plain words

-- `--root` and `--steps`
pub data Flag : Type 0 where
  Root : Flag
  Steps : Flag

-- the values of the options, and the plain words, in the order of the words
pub record Given : Type 0 where
  pub roots : List (List ℕ)
  pub steps : List (List ℕ)
  pub words : List (List ℕ)

abbrev pub nothing : Given
nothing = record { roots = []; steps = []; words = [] }

-- with a value, or a plain word, before the others
abbrev pub with_value : Flag → List ℕ → Given → Given
with_value Root value given = record given { roots = value ∷ given.roots }
with_value Steps value given = record given { steps = value ∷ given.steps }

abbrev pub with_plain : List ℕ → Given → Given
with_plain word given = record given { words = word ∷ given.words }

-- what a word is, before `--` and where no option waits for its value: `--`, an option whose value is the next word,
-- an option with its value, a plain word, or a word that begins with `-` and is none of these
pub data Part : Type 0 where
  ends : Part
  waits : Flag → Part
  carries : Flag → List ℕ → Part
  plain : Part
  unknown : Part

abbrev pub begins_with_dash : List ℕ → Bool
begins_with_dash [] = false
begins_with_dash (c ∷ cs) = c == 45

-- `-` alone is plain
abbrev pub plain_or_unknown : List ℕ → Part
plain_or_unknown word = if begins_with_dash word && nat_lt 1 (length word) then unknown else plain

-- what stands behind a front of a word
abbrev pub behind : (front word : List ℕ) → Option (List ℕ)
behind front word = if starts_with nat_eq word front then Some (drop (length front) word) else None

-- by what stands behind `--root=` and behind `--steps=`
abbrev pub part_by_value : (root steps : Option (List ℕ)) → List ℕ → Part
part_by_value (Some value) steps word = carries Root value
part_by_value None (Some value) word = carries Steps value
part_by_value None None word = plain_or_unknown word

abbrev pub part_of : List ℕ → Part
part_of word = if bytes_eq word (codes "--") then ends
    else if bytes_eq word (codes "--root") then waits Root
    else if bytes_eq word (codes "--steps") then waits Steps
    else part_by_value (behind (codes "--root=") word) (behind (codes "--steps=") word) word

-- what a word gives with the words after it, of which `rest` says what they give after an option that waits or after none
abbrev pub given_by : Part → List ℕ → List (List ℕ) → (Option Flag → Option Given) → Option Given
given_by ends word words rest = Some (record nothing { words = words })
given_by (waits flag) word words rest = rest (Some flag)
given_by (carries flag value) word words rest = option_map (with_value flag value) (rest None)
given_by plain word words rest = option_map (with_plain word) (rest None)
given_by unknown word words rest = None

-- an option that waits takes the word, whatever it is
abbrev pub given_with : Option Flag → List ℕ → List (List ℕ) → (Option Flag → Option Given) → Option Given
given_with (Some flag) word words rest = option_map (with_value flag word) (rest None)
given_with None word words rest = given_by (part_of word) word words rest

-- an option that still waits at the end has no value
abbrev pub given_at_end : Option Flag → Option Given
given_at_end None = Some nothing
given_at_end (Some flag) = None

-- what the words give, after an option that waits for its value or after none; None is a fault of use
abbrev pub given_after : Option Flag → List (List ℕ) → Option Given
given_after waiting [] = given_at_end waiting
given_after waiting (word ∷ words) = given_with waiting word words (λ next. given_after next words)

-- ---- Names of modules: names joined by two colons

abbrev pub is_letter : ℕ → Bool
is_letter c = (nat_le 65 c && nat_le c 90) || (nat_le 97 c && nat_le c 122) || (c == 95)

abbrev pub is_digit : ℕ → Bool
is_digit c = nat_le 48 c && nat_le c 57

-- where a name begins, inside of one, and behind one colon
abbrev pub next_stage : Stage → ℕ → Option Stage
next_stage Begin c = if is_letter c then Some Inside else None
next_stage Inside c = if is_letter c || is_digit c then Some Inside else if c == 58 then Some Colon else None
next_stage Colon c = if c == 58 then Some Begin else None

abbrev pub ends_name : Stage → Bool
ends_name Begin = false
ends_name Inside = true
ends_name Colon = false

abbrev pub is_name_from : Stage → List ℕ → Bool
is_name_from stage [] = ends_name stage
is_name_from stage (c ∷ cs) = option_map_or (λ next. is_name_from next cs) (next_stage stage c) false

abbrev pub is_module_name : List ℕ → Bool
is_module_name name = is_name_from Begin name

-- ---- What they ask for

-- a module to run, from a root, with a budget
pub record Asked : Type 0 where
  pub root : List ℕ
  pub name : List ℕ
  pub units : ℕ

-- a value is not empty and begins with no `-`
abbrev pub is_value : List ℕ → Bool
is_value [] = false
is_value (c ∷ cs) = not (c == 45)

-- an option is given at most once, with a value
abbrev pub only_value : List (List ℕ) → Option (Option (List ℕ))
only_value [] = Some None
only_value (value ∷ []) = if is_value value then Some (Some value) else None
only_value (value ∷ more ∷ rest) = None

-- decimal digits, with a number of at most 2^64 - 1
abbrev pub number_of : List ℕ → Option ℕ
number_of digits = if list_all is_ascii_digit digits && nat_lt 0 (length digits) && nat_lt (digits_value 10 digits) (2 ^ 64)
    then Some (digits_value 10 digits) else None

abbrev pub units_of : Option (List ℕ) → Option ℕ
units_of None = Some 50000000
units_of (Some digits) = number_of digits

-- no root is the empty one
abbrev pub root_of : Option (List ℕ) → List ℕ
root_of None = []
root_of (Some root) = root

-- the job `run` and the module, and no more
abbrev pub asked_by : Option (List ℕ) → Option (List ℕ) → List (List ℕ) → Option Asked
asked_by root steps (job ∷ name ∷ []) = if bytes_eq job (codes "run") && is_module_name name
    then option_map (λ units. record { root = root_of root; name = name; units = units }) (units_of steps)
    else None
asked_by root steps words = None

abbrev pub asked_given : Given → Option Asked
asked_given given = option_and_then (λ root. option_and_then (λ steps. asked_by root steps given.words) (only_value given.steps)) (only_value given.roots)

-- what the words ask for; None where they have another form
abbrev pub asked_of : List (List ℕ) → Option Asked
asked_of words = option_and_then asked_given (given_after None words)

-- what an answer says
abbrev pub seen_asked : asked.Asked → Asked
seen_asked it = record { root = it.root.now; name = it.name.now; units = it.units }
