-- What the rows of the matches hold of the words so far.
use Rattle.std.proofs.Common.{◌≡◌, ◌∙◌, ◌++◌, ℕ, false, is_some, List, [], ◌∷◌, Option, Some, None, option_map, codes, refl, sym, subst, ap, ap₂}
use Rattle.std.proofs.lemmas.List.{append-nil}
use Rattle.std.specs.Prelude.{option_and_then, slice_get}
use Rattle.std.specs.Option.{option_or, option_to_list}
use Rattle.clap.specs.Faults.{use_fault}
use Rattle.clap.specs.Walk.{Row, Text, all_of, first_of, used}
use Rattle.rl_words.specs.Words.{Asked, Given, asked_given, nothing}
use Rattle.rl_words.specs.Reader.{given_in, given_of}
use Rattle.rl_words.proofs.Command.{option_built, plain_built}
use Rattle.rl_words.proofs.Rows.{all_of-push, first_of-all_of}
use Rattle.rl_words.proofs.Turns.{IsFault, repeats, row_for, option_use, option_used, plain_use, plain_used}

abbrev pub looked : List Row → Option Asked
looked rows = asked_given (given_in rows)

-- ---- what was read, and what the rest gives

-- the plain words so far
pub data Words : Type 0 where
  no_word : Words
  one_word : Text → Words
  two_words : Text → Text → Words

abbrev pub place : Words → ℕ
place no_word = 1
place (one_word job) = 2
place (two_words job name) = 3

abbrev pub job_of : Words → Option Text
job_of no_word = None
job_of (one_word job) = Some job
job_of (two_words job name) = Some job

abbrev pub name_of : Words → Option Text
name_of no_word = None
name_of (one_word job) = None
name_of (two_words job name) = Some name

abbrev pub listed : Words → List Text
listed no_word = []
listed (one_word job) = job ∷ []
listed (two_words job name) = job ∷ name ∷ []

abbrev pub found : Option Text → Option (List Text)
found = option_map (λ v. v ∷ [])

-- the rows hold the values of the options and the plain words
pub record Holds (rows : List Row) (root steps : Option Text) (words : Words) : Type 0 where
  pub root_is : all_of (codes "root") rows ≡ found root
  pub steps_is : all_of (codes "steps") rows ≡ found steps
  pub job_is : all_of (codes "job") rows ≡ found (job_of words)
  pub name_is : all_of (codes "module") rows ≡ found (name_of words)

-- what was read with what follows
abbrev pub joined : Option Text → Option Text → Words → Given → Given
joined root steps words given = record {
  roots = option_to_list root ++ given.roots;
  steps = option_to_list steps ++ given.steps;
  words = listed words ++ given.words;
}

abbrev pub asked_with : Option Text → Option Text → Words → Option Given → Option Asked
asked_with root steps words = option_and_then (λ given. asked_given (joined root steps words given))

or_none : {X : Type 0} (o : Option X) → option_or o None ≡ o
or_none None = refl
or_none (Some x) = refl

module _ (rows : List Row) (v : Text) where
  kept : (name id : Text) (o : Option Text) → all_of id (row_for name v ∷ []) ≡ None → all_of id rows ≡ found o → all_of id (rows ++ row_for name v ∷ []) ≡ found o
  kept name id o other is = all_of-push id rows (row_for name v) ∙ ap₂ option_or is other ∙ or_none (found o)

  added : (name : Text) → all_of name (row_for name v ∷ []) ≡ Some (v ∷ []) → all_of name rows ≡ None → all_of name (rows ++ row_for name v ∷ []) ≡ found (Some v)
  added name own none = all_of-push name rows (row_for name v) ∙ ap₂ option_or none own

  pub holds_root : (steps : Option Text) (words : Words) → Holds rows None steps words → Holds (used (option_built (codes "root")) (v ∷ []) rows) (Some v) steps words
  holds_root steps words h = subst (λ l. Holds l (Some v) steps words) (sym (option_used (codes "root") v rows h.root_is)) (record {
    root_is = added (codes "root") refl h.root_is;
    steps_is = kept (codes "root") (codes "steps") steps refl h.steps_is;
    job_is = kept (codes "root") (codes "job") (job_of words) refl h.job_is;
    name_is = kept (codes "root") (codes "module") (name_of words) refl h.name_is;
  })

  pub holds_steps : (root : Option Text) (words : Words) → Holds rows root None words → Holds (used (option_built (codes "steps")) (v ∷ []) rows) root (Some v) words
  holds_steps root words h = subst (λ l. Holds l root (Some v) words) (sym (option_used (codes "steps") v rows h.steps_is)) (record {
    root_is = kept (codes "steps") (codes "root") root refl h.root_is;
    steps_is = added (codes "steps") refl h.steps_is;
    job_is = kept (codes "steps") (codes "job") (job_of words) refl h.job_is;
    name_is = kept (codes "steps") (codes "module") (name_of words) refl h.name_is;
  })

  pub holds_job : (root steps : Option Text) → Holds rows root steps no_word → Holds (used (plain_built 1 (codes "job")) (v ∷ []) rows) root steps (one_word v)
  holds_job root steps h = subst (λ l. Holds l root steps (one_word v)) (sym (plain_used 1 (codes "job") v rows h.job_is)) (record {
    root_is = kept (codes "job") (codes "root") root refl h.root_is;
    steps_is = kept (codes "job") (codes "steps") steps refl h.steps_is;
    job_is = added (codes "job") refl h.job_is;
    name_is = kept (codes "job") (codes "module") None refl h.name_is;
  })

  pub holds_name : (root steps : Option Text) (job : Text) → Holds rows root steps (one_word job) → Holds (used (plain_built 2 (codes "module")) (v ∷ []) rows) root steps (two_words job v)
  holds_name root steps job h = subst (λ l. Holds l root steps (two_words job v)) (sym (plain_used 2 (codes "module") v rows h.name_is)) (record {
    root_is = kept (codes "module") (codes "root") root refl h.root_is;
    steps_is = kept (codes "module") (codes "steps") steps refl h.steps_is;
    job_is = kept (codes "module") (codes "job") (Some job) refl h.job_is;
    name_is = added (codes "module") refl h.name_is;
  })

  pub option_passes : (name : Text) → all_of name rows ≡ None → use_fault false (option_built name) (v ∷ []) rows ≡ []
  option_passes name none = option_use name v rows ∙ ap (λ o. repeats (is_some o)) none

  pub option_repeats : (name u : Text) → all_of name rows ≡ Some (u ∷ []) → IsFault (use_fault false (option_built name) (v ∷ []) rows)
  option_repeats name u some = subst IsFault (sym (option_use name v rows ∙ ap (λ o. repeats (is_some o)) some)) tt

  pub plain_passes : (i : ℕ) (name : Text) → all_of name rows ≡ None → use_fault false (plain_built i name) (v ∷ []) rows ≡ []
  plain_passes i name none = plain_use i name v rows ∙ ap (λ o. repeats (is_some o)) none

-- ---- at the end

found_first : (id : Text) (rows : List Row) (o : Option Text) → all_of id rows ≡ found o → first_of id rows ≡ o
found_first id rows o is = first_of-all_of id rows ∙ ap (option_and_then (λ values. slice_get values 0)) is ∙ go o
  where
    go : (p : Option Text) → option_and_then (λ values. slice_get values 0) (found p) ≡ p
    go None = refl
    go (Some v) = refl

listed_is : (words : Words) → option_to_list (job_of words) ++ option_to_list (name_of words) ≡ listed words ++ []
listed_is no_word = refl
listed_is (one_word job) = refl
listed_is (two_words job name) = refl

pub looked_is : (rows : List Row) (root steps : Option Text) (words : Words) → Holds rows root steps words → looked rows ≡ asked_given (joined root steps words nothing)
looked_is rows root steps words h =
    let root_first = found_first (codes "root") rows root h.root_is in
    let steps_first = found_first (codes "steps") rows steps h.steps_is in
    let job_first = found_first (codes "job") rows (job_of words) h.job_is in
    let name_first = found_first (codes "module") rows (name_of words) h.name_is in
    let roots = sym (append-nil (option_to_list root)) in
    let stepss = sym (append-nil (option_to_list steps)) in
    (λ i. asked_given (given_of (root_first i) (steps_first i) (job_first i) (name_first i)))
    ∙ (λ i. asked_given (record { roots = roots i; steps = stepss i; words = listed_is words i }))
