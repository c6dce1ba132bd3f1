-- What `clap` makes of the words is what they ask for.
use Rattle.std.proofs.Common.{◌≡◌, ◌∙◌, ◌++◌, ◌||◌, ℕ, Bool, true, false, cond, List, [], ◌∷◌, map, Option, Some, None, option_map, codes, refl, sym, subst, ap, ap₂, inl, inr, String, string_bytes}
use Rattle.std.specs.List.{fold}
use Rattle.std.specs.Prelude.{option_and_then}
use Rattle.std.specs.Option.{option_to_list}
use Rattle.std.specs.Str.{IsUtf8}
use Rattle.std.proofs.lemmas.Str.{IsUtf8-string_bytes}
use Rattle.clap.specs.Values.{kind_of}
use Rattle.clap.specs.declared.error.Error.{Error}
use Rattle.clap.specs.declared.error.kind.ErrorKind.TheVariants.{OutOfMemory}
use Rattle.clap.specs.Kinds.{HasKind, IsAmong, Kinds, or_else}
use Rattle.clap.specs.Faults.{check_fault, use_fault, default_fault, defaults_fault, given_default_fault, fault_of, settle_fault, step_fault, walk_fault}
use Rattle.clap.specs.Walk.{default_rows, is_empty, reading_by, Held, Row, Rule, Text, Waiting, Walk, finished, has_row, idle, nothing_held, option, settled, settled_rows, used, value, walk, walk_from, walked, with_default}
use Rattle.clap.specs.Simple.{built, matches_of}
use Rattle.clap.proofs.FaultLemmas.{leaf_fault}
use Rattle.rl_words.specs.Words.{Asked, Flag, Root, Steps, Given, Part, ends, waits, carries, plain, unknown, asked_by, asked_given, asked_of, given_after, given_by, is_value, nothing, only_value, part_of, with_plain, with_value}
use Rattle.rl_words.specs.Reader.{app}
use Rattle.rl_words.proofs.Command.{id_of, option_built, plain_built, rules, top}
use Rattle.rl_words.proofs.Forms.{Reads, reads}
use Rattle.rl_words.proofs.State.{looked, Words, no_word, one_word, two_words, place, listed, Holds, joined, asked_with, holds_root, holds_steps, holds_job, holds_name, option_passes, option_repeats, plain_passes, looked_is}
use Rattle.rl_words.proofs.Turns.{IsFault, held, idle_at, waiting_at, trailing_at, settles, kinds_of, next_of, or_else-first, ends_kinds, ends_next, waits_kinds, waits_next, carries_kinds, carries_next, plain_kinds, first_kinds, second_kinds, third_kinds, plain_fails, first_next, second_next, first_trailing, second_trailing, unknown_idle, unknown_waiting, waiting_fails, ends_waiting, waits_waiting, carries_waiting, value_kinds, value_next}

-- ---- what comes of the words that are left

abbrev pub unless : Kinds → Option Asked → Option Asked
unless [] asked = asked
unless (k ∷ ks) asked = None

abbrev end_of : Held → Option Asked
end_of h = unless (settle_fault rules false h) (looked (settled rules h).rows)

abbrev come : Walk → List Text → Option Asked
come w [] = end_of w.held
come w (word ∷ words) = unless (kinds_of w word) (come (next_of w word) words)

fails : (ks : Kinds) (asked : Option Asked) → IsFault ks → unless ks asked ≡ None
fails [] asked h = absurd h
fails (k ∷ ks) asked h = refl

of_none : (ks : Kinds) (asked : Option Asked) → asked ≡ None → unless ks asked ≡ None
of_none [] asked none = none
of_none (k ∷ ks) asked none = refl

unless-or_else : (a b : Kinds) (asked : Option Asked) → unless a (unless b asked) ≡ unless (or_else a b) asked
unless-or_else [] b asked = refl
unless-or_else (k ∷ ks) b asked = refl

-- a turn that passes
goes_on : (w next : Walk) (word : Text) (words : List Text) → kinds_of w word ≡ [] → next_of w word ≡ next → come w (word ∷ words) ≡ come next words
goes_on w next word words none is = λ i. unless (none i) (come (is i) words)

-- the words are text
abbrev pub AreTexts : List Text → Type 0
AreTexts [] = Unit {0}
AreTexts (word ∷ words) = IsUtf8 word × AreTexts words

-- ---- what the definition refuses

abbrev nothing_asked : Option Asked
nothing_asked = None

no_step : (roots : Option (Option Text)) → option_and_then (λ root. nothing_asked) roots ≡ None
no_step None = refl
no_step (Some root) = refl

no_plain : (words : List Text) (roots steps : Option (Option Text)) → ((root step : Option Text) → asked_by root step words ≡ None)
    → option_and_then (λ root. option_and_then (λ step. asked_by root step words) steps) roots ≡ None
no_plain words None steps h = refl
no_plain words (Some root) None h = refl
no_plain words (Some root) (Some step) h = h root step

-- three plain words
third_word : (root steps : Option Text) (job name word : Text) (given : Given) → asked_given (joined root steps (two_words job name) (with_plain word given)) ≡ None
third_word root steps job name word given =
    no_plain (job ∷ name ∷ word ∷ given.words) (only_value (option_to_list root ++ given.roots)) (only_value (option_to_list steps ++ given.steps)) (λ r s. refl)

third_after : (root steps : Option Text) (job name word : Text) (rest : Option Given) → asked_with root steps (two_words job name) (option_map (with_plain word) rest) ≡ None
third_after root steps job name word None = refl
third_after root steps job name word (Some given) = third_word root steps job name word given

-- a value more than an option may have
root_again : (u v : Text) (steps : Option Text) (words : Words) (rest : Option Given) → asked_with (Some u) steps words (option_map (with_value Root v) rest) ≡ None
root_again u v steps words None = refl
root_again u v steps words (Some given) = refl

steps_again : (u v : Text) (root : Option Text) (words : Words) (rest : Option Given) → asked_with root (Some u) words (option_map (with_value Steps v) rest) ≡ None
steps_again u v root words None = refl
steps_again u v root words (Some given) = no_step (only_value (option_to_list root ++ given.roots))

no_value : (v : Text) (vs : List Text) → is_value v ≡ false → only_value (v ∷ vs) ≡ None
no_value v [] bad = ap (λ b. cond b (Some (Some v)) None) bad
no_value v (w ∷ vs) bad = refl

no_more : (o : Option Text) (v : Text) (vs : List Text) → is_value v ≡ false → only_value (option_to_list o ++ (v ∷ vs)) ≡ None
no_more None v vs bad = no_value v vs bad
no_more (Some u) v vs bad = refl

-- what is no value
bad_value : (flag : Flag) (v : Text) (root steps : Option Text) (words : Words) (rest : Option Given) → is_value v ≡ false
    → asked_with root steps words (option_map (with_value flag v) rest) ≡ None
bad_value flag v root steps words None bad = refl
bad_value Root v root steps words (Some given) bad =
    ap (option_and_then (λ r. option_and_then (λ s. asked_by r s (listed words ++ given.words)) (only_value (option_to_list steps ++ given.steps)))) (no_more root v given.roots bad)
bad_value Steps v root steps words (Some given) bad =
    ap (λ o. option_and_then (λ r. option_and_then (λ s. asked_by r s (listed words ++ given.words)) o) (only_value (option_to_list root ++ given.roots))) (no_more steps v given.steps bad)
    ∙ no_step (only_value (option_to_list root ++ given.roots))

-- what a word adds
root_more : (v : Text) (steps : Option Text) (words : Words) (rest : Option Given) → asked_with None steps words (option_map (with_value Root v) rest) ≡ asked_with (Some v) steps words rest
root_more v steps words None = refl
root_more v steps words (Some given) = refl

steps_more : (v : Text) (root : Option Text) (words : Words) (rest : Option Given) → asked_with root None words (option_map (with_value Steps v) rest) ≡ asked_with root (Some v) words rest
steps_more v root words None = refl
steps_more v root words (Some given) = refl

first_more : (root steps : Option Text) (word : Text) (rest : Option Given) → asked_with root steps no_word (option_map (with_plain word) rest) ≡ asked_with root steps (one_word word) rest
first_more root steps word None = refl
first_more root steps word (Some given) = refl

second_more : (root steps : Option Text) (job word : Text) (rest : Option Given) → asked_with root steps (one_word job) (option_map (with_plain word) rest) ≡ asked_with root steps (two_words job word) rest
second_more root steps job word None = refl
second_more root steps job word (Some given) = refl

-- ---- after a use that fails

trailing_fails : (words : List Text) (waiting : Waiting) (rows : List Row) (pending : Option (Text × List Text)) (n : ℕ) → IsFault (settles rows pending)
    → come (trailing_at waiting rows pending n) words ≡ None
trailing_fails [] waiting rows pending n bad = fails _ _ bad
trailing_fails (word ∷ words) waiting rows pending n bad = fails _ _ (plain_fails rows pending n bad)

idle_fails : (words : List Text) (rows : List Row) (pending : Option (Text × List Text)) (n : ℕ) → AreTexts words → IsFault (settles rows pending)
    → come (idle_at rows pending n) words ≡ None
idle_fails [] rows pending n texts bad = fails _ _ bad
idle_fails (word ∷ words) rows pending n texts bad = go (part_of word) (reads word texts.0)
  where
    go : (part : Part) → Reads part word → come (idle_at rows pending n) (word ∷ words) ≡ None
    go ends r = of_none _ _ (ap (λ w. come w words) (ends_next word rows pending n r.0) ∙ trailing_fails words idle rows pending n bad)
    go (waits flag) r = fails _ _ (subst IsFault (sym (waits_kinds word rows pending n flag r.0 r.1)) (or_else-first _ _ bad))
    go (carries flag v) r = fails _ _ (subst IsFault (sym (carries_kinds word rows pending n flag v r.0 r.1)) (or_else-first _ _ (or_else-first _ _ bad)))
    go plain r = fails _ _ (subst IsFault (sym (plain_kinds word rows pending n r.0 r.1 r.2)) (plain_fails rows pending n bad))
    go unknown r = fails _ _ (unknown_idle word rows pending n r.0 r.1)

-- ---- behind `--`

trailing : (words : List Text) (waiting : Waiting) (rows : List Row) (pending : Option (Text × List Text)) (root steps : Option Text) (seen : Words)
    → settles rows pending ≡ [] → Holds (settled_rows rules pending rows) root steps seen
    → come (trailing_at waiting rows pending (place seen)) words ≡ asked_given (joined root steps seen (record nothing { words = words }))
trailing [] waiting rows pending root steps seen passes h =
    ap (λ ks. unless ks (looked (settled_rows rules pending rows))) passes ∙ looked_is (settled_rows rules pending rows) root steps seen h
trailing (word ∷ words) waiting rows pending root steps no_word passes h =
    goes_on (trailing_at waiting rows pending 1) _ word words (first_kinds rows pending ∙ passes) (first_trailing rows pending waiting word)
    ∙ trailing words idle (settled_rows rules pending rows) (Some (codes "job", word ∷ [])) root steps (one_word word)
    (plain_passes (settled_rows rules pending rows) word 1 (codes "job") h.job_is) (holds_job (settled_rows rules pending rows) word root steps h)
trailing (word ∷ words) waiting rows pending root steps (one_word job) passes h =
    goes_on (trailing_at waiting rows pending 2) _ word words (second_kinds rows pending ∙ passes) (second_trailing rows pending waiting word)
    ∙ trailing words idle (settled_rows rules pending rows) (Some (codes "module", word ∷ [])) root steps (two_words job word)
    (plain_passes (settled_rows rules pending rows) word 2 (codes "module") h.name_is) (holds_name (settled_rows rules pending rows) word root steps job h)
trailing (word ∷ words) waiting rows pending root steps (two_words job name) passes h =
    fails (step_fault top 3 (held rows pending) value) (come (next_of (trailing_at waiting rows pending 3) word) words) (third_kinds rows pending) ∙ sym (third_word root steps job name word (record nothing { words = words }))

-- ---- all words

record Simulates (words : List Text) : Type 0 where
  idly : (rows : List Row) (pending : Option (Text × List Text)) (root steps : Option Text) (seen : Words)
      → settles rows pending ≡ [] → Holds (settled_rows rules pending rows) root steps seen
      → come (idle_at rows pending (place seen)) words ≡ asked_with root steps seen (given_after None words)
  waitingly : (flag : Flag) (rows : List Row) (root steps : Option Text) (seen : Words) → Holds rows root steps seen
      → come (waiting_at flag rows (place seen)) words ≡ asked_with root steps seen (given_after (Some flag) words)

module _ (word : Text) (words : List Text) (texts : AreTexts (word ∷ words)) (rest : Simulates words) where
  carried : (flag : Flag) (v : Text) (rows : List Row) (pending : Option (Text × List Text)) (root steps : Option Text) (seen : Words)
      → settles rows pending ≡ [] → Holds (settled_rows rules pending rows) root steps seen → Reads (carries flag v) word
      → come (idle_at rows pending (place seen)) (word ∷ words) ≡ asked_with root steps seen (option_map (with_value flag v) (given_after None words))
  carried Root v rows pending None steps seen passes h r =
      let before = settled_rows rules pending rows in
      let fresh = option_passes before v (codes "root") h.root_is in
      goes_on (idle_at rows pending (place seen)) _ word words (carries_kinds word rows pending (place seen) Root v r.0 r.1 ∙ (λ i. or_else (or_else (passes i) (fresh i)) []))
      (carries_next word rows pending (place seen) Root v r.0 r.1)
      ∙ rest.idly (used (option_built (codes "root")) (v ∷ []) before) None (Some v) steps seen refl (holds_root before v steps seen h)
      ∙ sym (root_more v steps seen (given_after None words))
  carried Steps v rows pending root None seen passes h r =
      let before = settled_rows rules pending rows in
      let fresh = option_passes before v (codes "steps") h.steps_is in
      goes_on (idle_at rows pending (place seen)) _ word words (carries_kinds word rows pending (place seen) Steps v r.0 r.1 ∙ (λ i. or_else (or_else (passes i) (fresh i)) []))
      (carries_next word rows pending (place seen) Steps v r.0 r.1)
      ∙ rest.idly (used (option_built (codes "steps")) (v ∷ []) before) None root (Some v) seen refl (holds_steps before v root seen h)
      ∙ sym (steps_more v root seen (given_after None words))
  carried Root v rows pending (Some u) steps seen passes h r =
      let before = settled_rows rules pending rows in
      let is = carries_kinds word rows pending (place seen) Root v r.0 r.1
      ∙ ap (λ ks. or_else (or_else ks (use_fault false (option_built (codes "root")) (v ∷ []) before)) []) passes in
      fails _ _ (subst IsFault (sym is) (or_else-first _ _ (option_repeats before v (codes "root") u h.root_is)))
      ∙ sym (root_again u v steps seen (given_after None words))
  carried Steps v rows pending root (Some u) seen passes h r =
      let before = settled_rows rules pending rows in
      let is = carries_kinds word rows pending (place seen) Steps v r.0 r.1
      ∙ ap (λ ks. or_else (or_else ks (use_fault false (option_built (codes "steps")) (v ∷ []) before)) []) passes in
      fails _ _ (subst IsFault (sym is) (or_else-first _ _ (option_repeats before v (codes "steps") u h.steps_is)))
      ∙ sym (steps_again u v root seen (given_after None words))

  placed : (rows : List Row) (pending : Option (Text × List Text)) (root steps : Option Text) (seen : Words)
      → settles rows pending ≡ [] → Holds (settled_rows rules pending rows) root steps seen → Reads plain word
      → come (idle_at rows pending (place seen)) (word ∷ words) ≡ asked_with root steps seen (option_map (with_plain word) (given_after None words))
  placed rows pending root steps no_word passes h r =
      let before = settled_rows rules pending rows in
      goes_on (idle_at rows pending 1) _ word words (plain_kinds word rows pending 1 r.0 r.1 r.2 ∙ first_kinds rows pending ∙ passes) (first_next rows pending word r.0 r.1 r.2)
      ∙ rest.idly before (Some (codes "job", word ∷ [])) root steps (one_word word) (plain_passes before word 1 (codes "job") h.job_is) (holds_job before word root steps h)
      ∙ sym (first_more root steps word (given_after None words))
  placed rows pending root steps (one_word job) passes h r =
      let before = settled_rows rules pending rows in
      goes_on (idle_at rows pending 2) _ word words (plain_kinds word rows pending 2 r.0 r.1 r.2 ∙ second_kinds rows pending ∙ passes) (second_next rows pending word r.0 r.1 r.2)
      ∙ rest.idly before (Some (codes "module", word ∷ [])) root steps (two_words job word) (plain_passes before word 2 (codes "module") h.name_is) (holds_name before word root steps job h)
      ∙ sym (second_more root steps job word (given_after None words))
  placed rows pending root steps (two_words job name) passes h r =
      fails _ _ (subst IsFault (sym (plain_kinds word rows pending 3 r.0 r.1 r.2)) (third_kinds rows pending))
      ∙ sym (third_after root steps job name word (given_after None words))

  idle_word : (rows : List Row) (pending : Option (Text × List Text)) (root steps : Option Text) (seen : Words)
      → settles rows pending ≡ [] → Holds (settled_rows rules pending rows) root steps seen → (part : Part) → Reads part word
      → come (idle_at rows pending (place seen)) (word ∷ words) ≡ asked_with root steps seen (given_by part word words (λ next. given_after next words))
  idle_word rows pending root steps seen passes h ends r =
      goes_on (idle_at rows pending (place seen)) _ word words (ends_kinds word rows pending (place seen) r.0) (ends_next word rows pending (place seen) r.0)
      ∙ trailing words idle rows pending root steps seen passes h
  idle_word rows pending root steps seen passes h (waits flag) r =
      goes_on (idle_at rows pending (place seen)) _ word words (waits_kinds word rows pending (place seen) flag r.0 r.1 ∙ ap (λ ks. or_else ks []) passes) (waits_next word rows pending (place seen) flag r.0 r.1)
      ∙ rest.waitingly flag (settled_rows rules pending rows) root steps seen h
  idle_word rows pending root steps seen passes h (carries flag v) r = carried flag v rows pending root steps seen passes h r
  idle_word rows pending root steps seen passes h plain r = placed rows pending root steps seen passes h r
  idle_word rows pending root steps seen passes h unknown r = fails _ _ (unknown_idle word rows pending (place seen) r.0 r.1)

  valued : (flag : Flag) (rows : List Row) (root steps : Option Text) (seen : Words) → Holds rows root steps seen → Reads plain word
      → come (waiting_at flag rows (place seen)) (word ∷ words) ≡ asked_with root steps seen (option_map (with_value flag word) (given_after None words))
  valued Root rows None steps seen h r =
      goes_on (waiting_at Root rows (place seen)) _ word words (value_kinds word rows (place seen) Root r.0 r.1 r.2) (value_next word rows (place seen) Root r.0 r.1 r.2)
      ∙ rest.idly rows (Some (codes "root", word ∷ [])) (Some word) steps seen (option_passes rows word (codes "root") h.root_is) (holds_root rows word steps seen h)
      ∙ sym (root_more word steps seen (given_after None words))
  valued Steps rows root None seen h r =
      goes_on (waiting_at Steps rows (place seen)) _ word words (value_kinds word rows (place seen) Steps r.0 r.1 r.2) (value_next word rows (place seen) Steps r.0 r.1 r.2)
      ∙ rest.idly rows (Some (codes "steps", word ∷ [])) root (Some word) seen (option_passes rows word (codes "steps") h.steps_is) (holds_steps rows word root seen h)
      ∙ sym (steps_more word root seen (given_after None words))
  valued Root rows (Some u) steps seen h r =
      goes_on (waiting_at Root rows (place seen)) _ word words (value_kinds word rows (place seen) Root r.0 r.1 r.2) (value_next word rows (place seen) Root r.0 r.1 r.2)
      ∙ idle_fails words rows (Some (codes "root", word ∷ [])) (place seen) texts.1 (option_repeats rows word (codes "root") u h.root_is)
      ∙ sym (root_again u word steps seen (given_after None words))
  valued Steps rows root (Some u) seen h r =
      goes_on (waiting_at Steps rows (place seen)) _ word words (value_kinds word rows (place seen) Steps r.0 r.1 r.2) (value_next word rows (place seen) Steps r.0 r.1 r.2)
      ∙ idle_fails words rows (Some (codes "steps", word ∷ [])) (place seen) texts.1 (option_repeats rows word (codes "steps") u h.steps_is)
      ∙ sym (steps_again u word root seen (given_after None words))

  waiting_word : (flag : Flag) (rows : List Row) (root steps : Option Text) (seen : Words) → Holds rows root steps seen → (part : Part) → Reads part word
      → come (waiting_at flag rows (place seen)) (word ∷ words) ≡ asked_with root steps seen (option_map (with_value flag word) (given_after None words))
  waiting_word flag rows root steps seen h ends r =
      of_none _ _ (ap (λ w. come w words) (ends_waiting word rows (place seen) flag r.0) ∙ trailing_fails words (option (id_of flag)) rows (Some (id_of flag, [])) (place seen) (waiting_fails flag rows))
      ∙ sym (bad_value flag word root steps seen (given_after None words) r.1)
  waiting_word flag rows root steps seen h (waits other) r =
      fails _ _ (waits_waiting word rows (place seen) flag other r.0 r.1) ∙ sym (bad_value flag word root steps seen (given_after None words) r.2)
  waiting_word flag rows root steps seen h (carries other v) r =
      fails _ _ (carries_waiting word rows (place seen) flag other v r.0 r.1) ∙ sym (bad_value flag word root steps seen (given_after None words) r.2)
  waiting_word flag rows root steps seen h plain r = valued flag rows root steps seen h r
  waiting_word flag rows root steps seen h unknown r =
      fails _ _ (unknown_waiting word flag rows (place seen) r.0 r.1) ∙ sym (bad_value flag word root steps seen (given_after None words) r.2)

simulates : (words : List Text) → AreTexts words → Simulates words
simulates [] texts = record {
  idly = λ rows pending root steps seen passes h.
      ap (λ ks. unless ks (looked (settled_rows rules pending rows))) passes ∙ looked_is (settled_rows rules pending rows) root steps seen h;
  waitingly = λ flag rows root steps seen h. fails _ _ (waiting_fails flag rows);
}
simulates (word ∷ words) texts =
    let rest = simulates words texts.1 in
    record {
      idly = λ rows pending root steps seen passes h. idle_word word words texts rest rows pending root steps seen passes h (part_of word) (reads word texts.0);
      waitingly = λ flag rows root steps seen h. waiting_word word words texts rest flag rows root steps seen h (part_of word) (reads word texts.0);
    }

-- ---- the whole of a parse

walks : (w : Walk) (words : List Text) → come w words ≡ unless (walk_fault top [] w words) (end_of (fold (walked rules []) w words).held)
unfolding walked walk_fault
walks w [] = refl
walks w (word ∷ words) = ap (unless (kinds_of w word)) (walks (next_of w word) words) ∙ unless-or_else (kinds_of w word) _ _

or_else-nil : (ks : Kinds) → or_else ks [] ≡ ks
or_else-nil [] = refl
or_else-nil (k ∷ ks) = refl

no_fault : (b : Bool) (ks : Kinds) → cond (b || true) [] ks ≡ []
no_fault true ks = refl
no_fault false ks = refl

same_rows : (b : Bool) (rows : List Row) → cond b rows rows ≡ rows
same_rows true rows = refl
same_rows false rows = refl

-- an argument without a default
module _ (a : Rule) (rest : List Rule) (rows : List Row) (none : a.defaults ≡ []) where
  no_row : with_default rows a ≡ rows
  no_row = ap (λ ds. cond (has_row a.id rows) rows (default_rows a.id (reading_by a) ds rows)) none ∙ same_rows (has_row a.id rows) rows

  no_default : default_fault rows a ≡ []
  no_default = ap (λ ds. cond (has_row a.id rows || is_empty ds) [] (given_default_fault a ds)) none ∙ no_fault (has_row a.id rows) (given_default_fault a [])

  next_row : fold with_default rows (a ∷ rest) ≡ fold with_default rows rest
  next_row = ap (λ r. fold with_default r rest) no_row

  next_fault : defaults_fault rows (a ∷ rest) ≡ defaults_fault rows rest
  unfolding defaults_fault
  next_fault = λ i. or_else (no_default i) (defaults_fault (no_row i) rest)

abbrev root_rule : Rule
root_rule = option_built (codes "root")

abbrev steps_rule : Rule
steps_rule = option_built (codes "steps")

abbrev job_rule : Rule
job_rule = plain_built 1 (codes "job")

abbrev name_rule : Rule
name_rule = plain_built 2 (codes "module")

no_faults : (rows : List Row) → defaults_fault rows rules ≡ []
unfolding defaults_fault
no_faults rows = next_fault root_rule (steps_rule ∷ job_rule ∷ name_rule ∷ []) rows refl ∙ next_fault steps_rule (job_rule ∷ name_rule ∷ []) rows refl
    ∙ next_fault job_rule (name_rule ∷ []) rows refl ∙ next_fault name_rule [] rows refl

no_rows : (rows : List Row) → fold with_default rows rules ≡ rows
no_rows rows = next_row root_rule (steps_rule ∷ job_rule ∷ name_rule ∷ []) rows refl ∙ next_row steps_rule (job_rule ∷ name_rule ∷ []) rows refl
    ∙ next_row job_rule (name_rule ∷ []) rows refl ∙ next_row name_rule [] rows refl

abbrev end_held : List Text → Held
end_held words = (walk rules [] nothing_held words).held

fault_is : (words : List Text) → fault_of app words ≡ or_else (walk_fault top [] (walk_from nothing_held) words) (settle_fault rules false (end_held words))
fault_is words =
    let end = end_held words in
    let walked_fault = walk_fault top [] (walk_from nothing_held) words in
    leaf_fault (built app) nothing_held words refl
    ∙ ap (λ ks. or_else walked_fault (or_else (settle_fault rules false end) (or_else ks (check_fault top (finished rules end) false)))) (no_faults (settled rules end).rows)
    ∙ ap (or_else walked_fault) (or_else-nil (settle_fault rules false end))

matches_are : (words : List Text) → matches_of app words ≡ (settled rules (end_held words)).rows
matches_are words = no_rows (settled rules (end_held words)).rows

-- the matches, where the parse does not fail, say what the words ask for
pub asked-is : (words : List Text) → AreTexts words → unless (fault_of app words) (looked (matches_of app words)) ≡ asked_of words
asked-is words texts =
    let walked_fault = walk_fault top [] (walk_from nothing_held) words in
    let holds : Holds [] None None no_word = record { root_is = refl; steps_is = refl; job_is = refl; name_is = refl } in
    ap₂ (λ ks rows. unless ks (looked rows)) (fault_is words) (matches_are words)
    ∙ sym (unless-or_else walked_fault (settle_fault rules false (end_held words)) (looked (settled rules (end_held words)).rows))
    ∙ sym (walks (walk_from nothing_held) words)
    ∙ (simulates words texts).idly [] None None None no_word refl holds

-- where the parse gives matches
pub asked-matches : (words : List Text) → AreTexts words → fault_of app words ≡ [] → looked (matches_of app words) ≡ asked_of words
asked-matches words texts none = ap (λ ks. unless ks (looked (matches_of app words))) (sym none) ∙ asked-is words texts

-- where it fails, and not for want of memory
pub asked-none : (words : List Text) (e : Error) → AreTexts words → HasKind (fault_of app words) e → (kind_of e ≡ OutOfMemory → ⊥) → None ≡ asked_of words
asked-none words e texts (inl memory) other = absurd (other memory)
asked-none words e texts (inr among) other = sym (by_kinds (fault_of app words) among) ∙ asked-is words texts
  where
    by_kinds : (ks : Kinds) → IsAmong (kind_of e) ks → unless ks (looked (matches_of app words)) ≡ None
    by_kinds [] h = absurd h
    by_kinds (k ∷ ks) h = refl

pub are_texts : {Z : Type 0} (words : List (String Z)) → AreTexts (map string_bytes words)
are_texts [] = tt
are_texts (word ∷ words) = (IsUtf8-string_bytes word, are_texts words)
