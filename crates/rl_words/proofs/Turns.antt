-- What each form of word does to the walk of `clap` over the words.
use Rattle.std.proofs.Common.{◌≡◌, ◌∙◌, ◌++◌, ◌&&◌, ◌==◌, ℕ, Bool, true, false, cond, is_some, List, [], ◌∷◌, length, Option, Some, None, codes, refl, sym, subst, ap, inl, inr}
use Rattle.std.proofs.lemmas.List.{append-nil}
use Rattle.std.specs.Prelude.{slice_get}
use Rattle.std.specs.Option.{option_map_or}
use Rattle.std.specs.Str.{bytes_eq, chars}
use Rattle.clap.specs.Lexer.{long_of, short_of}
use Rattle.clap.specs.Kinds.{Kinds, or_else}
use Rattle.clap.specs.Faults.{flags_fault, bundle_fault, bundle_step_fault, long_fault, stray_fault, positional_fault, settle_fault, step_fault, turn_fault, use_fault}
use Rattle.clap.specs.Walk.{Held, Row, Rule, Text, Waiting, Walk, all_of, has_row, idle, is_pending, more_values, option, pushed, settled, settled_rows, used, value, walked_from, with_values, without}
use Rattle.clap.specs.Values.{reading_of}
use Rattle.clap.specs.declared.builder.value_parser.ValueParser.TheVariants as vp
use Rattle.clap.specs.declared.error.kind.ErrorKind.TheVariants.{ArgumentConflict}
use Rattle.clap.specs.declared.parser.matches.ValueSource.TheVariants.{CommandLine}
use Rattle.rl_words.specs.Words.{Flag, Root, Steps}
use Rattle.rl_words.proofs.Command.{id_of, option_built, plain_built, rules, top}
use Rattle.rl_words.proofs.Forms.{IsUnknown}
use Rattle.rl_words.proofs.Rows.{at_row-absent, has_row-all_of}

-- ---- where the walk stands

abbrev pub held : List Row → Option (Text × List Text) → Held
held rows pending = record { rows = rows; pending = pending; skip = 0 }

-- no option waits
abbrev pub idle_at : List Row → Option (Text × List Text) → ℕ → Walk
idle_at rows pending position = record { held = held rows pending; waiting = idle; position = position; is_trailing = false; stopped = None }

-- the option waits for its value
abbrev pub waiting_at : Flag → List Row → ℕ → Walk
waiting_at flag rows position = record { held = held rows (Some (id_of flag, [])); waiting = option (id_of flag); position = position; is_trailing = false; stopped = None }

-- behind `--`
abbrev pub trailing_at : Waiting → List Row → Option (Text × List Text) → ℕ → Walk
trailing_at waiting rows pending position = record { held = held rows pending; waiting = waiting; position = position; is_trailing = true; stopped = None }

-- what the use of the pending argument fails by
abbrev pub settles : List Row → Option (Text × List Text) → Kinds
settles rows pending = settle_fault rules false (held rows pending)

abbrev pub kinds_of : Walk → Text → Kinds
kinds_of w word = turn_fault top [] w word

abbrev pub next_of : Walk → Text → Walk
next_of w word = walked_from rules [] w.stopped w word

abbrev pub IsFault : Kinds → Type 0
IsFault [] = ⊥
IsFault (k ∷ ks) = Unit {0}

pub or_else-first : (a b : Kinds) → IsFault a → IsFault (or_else a b)
or_else-first [] b h = absurd h
or_else-first (k ∷ ks) b h = tt

-- ---- one use of an option or of a plain word

abbrev pub repeats : Bool → Kinds
repeats true = ArgumentConflict ∷ []
repeats false = []

repeats_is : (b : Bool) → or_else (cond (b && true) (ArgumentConflict ∷ []) []) [] ≡ repeats b
repeats_is true = refl
repeats_is false = refl

-- a use fails where the argument was used before
pub option_use : (name v : Text) (rows : List Row) → use_fault false (option_built name) (v ∷ []) rows ≡ repeats (is_some (all_of name rows))
option_use name v rows = repeats_is (has_row name rows) ∙ ap repeats (has_row-all_of name rows)

pub plain_use : (i : ℕ) (name v : Text) (rows : List Row) → use_fault false (plain_built i name) (v ∷ []) rows ≡ repeats (is_some (all_of name rows))
plain_use i name v rows = repeats_is (has_row name rows) ∙ ap repeats (has_row-all_of name rows)

abbrev pub row_for : Text → Text → Row
row_for name v = record { id = name; values = v ∷ []; count = None; source = Some CommandLine; reading = reading_of vp.String }

pushes : (name v : Text) (rows : List Row) → all_of name rows ≡ None
    → with_values name (reading_of vp.String) CommandLine (v ∷ []) (without name rows) ≡ rows ++ row_for name v ∷ []
pushes name v rows none =
    let same : without name rows ≡ rows = at_row-absent name (λ r. []) [] rows none ∙ append-nil rows in
    ap (with_values name (reading_of vp.String) CommandLine (v ∷ [])) same ∙ at_row-absent name (more_values CommandLine (v ∷ [])) (row_for name v ∷ []) rows none

-- a use that passes adds a row
pub option_used : (name v : Text) (rows : List Row) → all_of name rows ≡ None → used (option_built name) (v ∷ []) rows ≡ rows ++ row_for name v ∷ []
option_used name v rows none = pushes name v rows none

pub plain_used : (i : ℕ) (name v : Text) (rows : List Row) → all_of name rows ≡ None → used (plain_built i name) (v ∷ []) rows ≡ rows ++ row_for name v ∷ []
plain_used i name v rows none = pushes name v rows none

-- ---- words where no option waits

module _ (word : Text) (rows : List Row) (pending : Option (Text × List Text)) (n : ℕ) where
  pub ends_kinds : bytes_eq word (45 ∷ 45 ∷ []) ≡ true → kinds_of (idle_at rows pending n) word ≡ []
  ends_kinds e = rw e refl

  pub ends_next : bytes_eq word (45 ∷ 45 ∷ []) ≡ true → next_of (idle_at rows pending n) word ≡ trailing_at idle rows pending n
  ends_next e = rw e refl

  pub waits_kinds : (flag : Flag) → bytes_eq word (45 ∷ 45 ∷ []) ≡ false → long_of word ≡ Some (id_of flag, None)
      → kinds_of (idle_at rows pending n) word ≡ or_else (settles rows pending) []
  waits_kinds Root e l = rw (e, l) refl
  waits_kinds Steps e l = rw (e, l) refl

  pub waits_next : (flag : Flag) → bytes_eq word (45 ∷ 45 ∷ []) ≡ false → long_of word ≡ Some (id_of flag, None)
      → next_of (idle_at rows pending n) word ≡ waiting_at flag (settled_rows rules pending rows) n
  waits_next Root e l = rw (e, l) refl
  waits_next Steps e l = rw (e, l) refl

  pub carries_kinds : (flag : Flag) (v : Text) → bytes_eq word (45 ∷ 45 ∷ []) ≡ false → long_of word ≡ Some (id_of flag, Some v)
      → kinds_of (idle_at rows pending n) word
      ≡ or_else (or_else (settles rows pending) (use_fault false (option_built (id_of flag)) (v ∷ []) (settled_rows rules pending rows))) []
  carries_kinds Root v e l = rw (e, l) refl
  carries_kinds Steps v e l = rw (e, l) refl

  pub carries_next : (flag : Flag) (v : Text) → bytes_eq word (45 ∷ 45 ∷ []) ≡ false → long_of word ≡ Some (id_of flag, Some v)
      → next_of (idle_at rows pending n) word ≡ idle_at (used (option_built (id_of flag)) (v ∷ []) (settled_rows rules pending rows)) None n
  carries_next Root v e l = rw (e, l) refl
  carries_next Steps v e l = rw (e, l) refl

  pub plain_kinds : bytes_eq word (45 ∷ 45 ∷ []) ≡ false → long_of word ≡ None → short_of word ≡ None
      → kinds_of (idle_at rows pending n) word ≡ step_fault top n (held rows pending) value
  plain_kinds e l s = rw (e, l, s) refl

-- a plain word goes to the first two places

pick : {X : Type 0} (b : Bool) (x y : X) → cond (b && false) x y ≡ y
pick true x y = refl
pick false x y = refl

abbrev job_rule : Rule
job_rule = plain_built 1 (codes "job")

abbrev name_rule : Rule
name_rule = plain_built 2 (codes "module")

abbrev pushed_at : Text → Text → ℕ → Bool → Held → Walk
pushed_at id word n is_trailing h = record { held = pushed id word h; waiting = idle; position = n; is_trailing = is_trailing; stopped = None }

module _ (rows : List Row) (pending : Option (Text × List Text)) where
  pub first_kinds : step_fault top 1 (held rows pending) value ≡ settles rows pending
  first_kinds = pick (is_pending job_rule pending) [] (settles rows pending)

  pub second_kinds : step_fault top 2 (held rows pending) value ≡ settles rows pending
  second_kinds = pick (is_pending name_rule pending) [] (settles rows pending)

  pub third_kinds : IsFault (step_fault top 3 (held rows pending) value)
  third_kinds = tt

  pub plain_fails : (n : ℕ) → IsFault (settles rows pending) → IsFault (step_fault top n (held rows pending) value)
  plain_fails n h = go (1 == n) (2 == n)
    where
      go : (b c : Bool) → IsFault (option_map_or (λ a. positional_fault rules false a (held rows pending))
          (cond b (Some job_rule) (cond c (Some name_rule) None)) (stray_fault top))
      go true c = subst IsFault (sym first_kinds) h
      go false true = subst IsFault (sym second_kinds) h
      go false false = tt

  settled_first : cond (is_pending job_rule pending && false) (held rows pending) (settled rules (held rows pending)) ≡ settled rules (held rows pending)
  settled_first = pick (is_pending job_rule pending) (held rows pending) (settled rules (held rows pending))

  settled_second : cond (is_pending name_rule pending && false) (held rows pending) (settled rules (held rows pending)) ≡ settled rules (held rows pending)
  settled_second = pick (is_pending name_rule pending) (held rows pending) (settled rules (held rows pending))

  pub first_next : (word : Text) → bytes_eq word (45 ∷ 45 ∷ []) ≡ false → long_of word ≡ None → short_of word ≡ None
      → next_of (idle_at rows pending 1) word ≡ idle_at (settled_rows rules pending rows) (Some (codes "job", word ∷ [])) 2
  first_next word e l s = rw (e, l, s) (ap (pushed_at (codes "job") word 2 false) settled_first)

  pub second_next : (word : Text) → bytes_eq word (45 ∷ 45 ∷ []) ≡ false → long_of word ≡ None → short_of word ≡ None
      → next_of (idle_at rows pending 2) word ≡ idle_at (settled_rows rules pending rows) (Some (codes "module", word ∷ [])) 3
  second_next word e l s = rw (e, l, s) (ap (pushed_at (codes "module") word 3 false) settled_second)

  -- ---- words behind `--`

  pub trailing_kinds : (waiting : Waiting) (n : ℕ) (word : Text) → kinds_of (trailing_at waiting rows pending n) word ≡ step_fault top n (held rows pending) value
  trailing_kinds waiting n word = refl

  pub first_trailing : (waiting : Waiting) (word : Text)
      → next_of (trailing_at waiting rows pending 1) word ≡ trailing_at idle (settled_rows rules pending rows) (Some (codes "job", word ∷ [])) 2
  first_trailing waiting word = ap (pushed_at (codes "job") word 2 true) settled_first

  pub second_trailing : (waiting : Waiting) (word : Text)
      → next_of (trailing_at waiting rows pending 2) word ≡ trailing_at idle (settled_rows rules pending rows) (Some (codes "module", word ∷ [])) 3
  second_trailing waiting word = ap (pushed_at (codes "module") word 3 true) settled_second

-- ---- words that stand for no option

bundle_fails : (rows : List Row) (pending : Option (Text × List Text)) (x : ℕ) (xs : Text) (c : ℕ) (cs : List ℕ) → chars (x ∷ xs) ≡ c ∷ cs
    → IsFault (bundle_fault rules false (x ∷ xs) (held rows pending))
unfolding flags_fault
bundle_fails rows pending x xs c cs e =
    subst (λ l. IsFault (bundle_step_fault rules false (slice_get l 0) (x ∷ xs) 0 (held rows pending) (flags_fault rules false (length xs)))) (sym e) tt

pub unknown_idle : (word : Text) (rows : List Row) (pending : Option (Text × List Text)) (n : ℕ) → bytes_eq word (45 ∷ 45 ∷ []) ≡ false → IsUnknown word
    → IsFault (kinds_of (idle_at rows pending n) word)
unknown_idle word rows pending n e (inl h) =
    rw (e, h.1) (or_else-first _ _ (subst (λ o. IsFault (long_fault rules false o h.0.1 (held rows pending))) (sym h.2) tt))
unknown_idle word rows pending n e (inr h) =
    rw (e, h.0, h.1.4) (or_else-first _ _ (bundle_fails rows pending h.1.0 h.1.1 h.1.2 h.1.3 h.1.5))

pub unknown_waiting : (word : Text) (flag : Flag) (rows : List Row) (n : ℕ) → bytes_eq word (45 ∷ 45 ∷ []) ≡ false → IsUnknown word
    → IsFault (kinds_of (waiting_at flag rows n) word)
unknown_waiting word flag rows n e (inl h) =
    rw (e, h.1) (or_else-first _ _ (subst (λ o. IsFault (long_fault rules false o h.0.1 (held rows (Some (id_of flag, []))))) (sym h.2) tt))
unknown_waiting word flag rows n e (inr h) =
    rw (e, h.0, h.1.4) (or_else-first _ _ (bundle_fails rows (Some (id_of flag, [])) h.1.0 h.1.1 h.1.2 h.1.3 h.1.5))

-- ---- words where an option waits

-- an option that waits has no value yet
pub waiting_fails : (flag : Flag) (rows : List Row) → IsFault (settles rows (Some (id_of flag, [])))
waiting_fails Root rows = tt
waiting_fails Steps rows = tt

module _ (word : Text) (rows : List Row) (n : ℕ) where
  pub ends_waiting : (flag : Flag) → bytes_eq word (45 ∷ 45 ∷ []) ≡ true
      → next_of (waiting_at flag rows n) word ≡ trailing_at (option (id_of flag)) rows (Some (id_of flag, [])) n
  ends_waiting flag e = rw e refl

  pub waits_waiting : (flag other : Flag) → bytes_eq word (45 ∷ 45 ∷ []) ≡ false → long_of word ≡ Some (id_of other, None)
      → IsFault (kinds_of (waiting_at flag rows n) word)
  waits_waiting flag Root e l = rw (e, l) (or_else-first _ _ (waiting_fails flag rows))
  waits_waiting flag Steps e l = rw (e, l) (or_else-first _ _ (waiting_fails flag rows))

  pub carries_waiting : (flag other : Flag) (v : Text) → bytes_eq word (45 ∷ 45 ∷ []) ≡ false → long_of word ≡ Some (id_of other, Some v)
      → IsFault (kinds_of (waiting_at flag rows n) word)
  carries_waiting flag Root v e l = rw (e, l) (or_else-first _ _ (or_else-first _ _ (waiting_fails flag rows)))
  carries_waiting flag Steps v e l = rw (e, l) (or_else-first _ _ (or_else-first _ _ (waiting_fails flag rows)))

  pub value_kinds : (flag : Flag) → bytes_eq word (45 ∷ 45 ∷ []) ≡ false → long_of word ≡ None → short_of word ≡ None
      → kinds_of (waiting_at flag rows n) word ≡ []
  value_kinds Root e l s = rw (e, l, s) refl
  value_kinds Steps e l s = rw (e, l, s) refl

  pub value_next : (flag : Flag) → bytes_eq word (45 ∷ 45 ∷ []) ≡ false → long_of word ≡ None → short_of word ≡ None
      → next_of (waiting_at flag rows n) word ≡ idle_at rows (Some (id_of flag, word ∷ [])) n
  value_next Root e l s = rw (e, l, s) refl
  value_next Steps e l s = rw (e, l, s) refl
