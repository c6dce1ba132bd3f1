-- What is put where a run ends.
use Rattle.std.proofs.Common.{◌≡◌, ℕ, suc, List, [], ◌∷◌, length, Some, None, Result, Err, IfSome, inr, refl, sym, ap, subst, ◌∙◌, arith, add-one, append-nil}
use Rattle.std.proofs.lemmas.List.{take_all}
use Rattle.rl_base.specs.Holds.{Holds}
use Rattle.rl_base.specs.Asked.{Asked, asked_after}
use Rattle.rl_base.specs.Told.{Told, Grows, TakesPart}
use Rattle.rl_base.proofs.Growth.{Grows-nil}
use Rattle.rl_eval.specs.Evaluation.{Ran, Done, Cut, printed}
use Rattle.rl_syntax.specs.declared.fault.Fault.{Fault}
use Rattle.rl_main.specs.declared.status.Status.{Status}
use Rattle.rl_main.specs.declared.status.Status.TheVariants as status
use Rattle.rl_modules.specs.Load.{paths_of}
use Rattle.rl_modules.specs.Path.{path_of}
use Rattle.rl_modules.proofs.Steps.{load_of-asks}
use Rattle.rl_words.specs.Words.{asked_of}
use Rattle.rl_main.specs.Lines.{usage_line}
use Rattle.rl_main.specs.Meaning.{meaning, meaning_of_fault, meaning_of_prepared, meaning_of_ran, paths}
use Rattle.rl_main.specs.Headline.{AsksFor, Headline, Refuses, TellsBudget}

-- nothing was put
nothing_taken : (t : Told) (piece : List ℕ) → TakesPart t piece t
nothing_taken t piece = (0, Grows-nil t)

-- the words have another form, and the line on err was put
pub usage_put : (holds : Holds) (words : List (List ℕ)) (o e e' : Told) → asked_of words ≡ None → Grows e usage_line e' → IfSome holds (λ held. Headline (meaning words held) status.Usage o o e e')
usage_put None words o e e' h k = tt
usage_put (Some held) words o e e' h k = rw h (refl, Grows-nil o, k)

-- or not all of it
pub usage_failed : (holds : Holds) (words : List (List ℕ)) (o e e' : Told) → asked_of words ≡ None → TakesPart e usage_line e' → IfSome holds (λ held. Headline (meaning words held) status.SinkFault o o e e')
usage_failed None words o e e' h k = tt
usage_failed (Some held) words o e e' h k = rw h (inr (Grows-nil o, k))

-- a fault was told
pub refused : (fault : Fault) (s : Status) (o e e' : Told) → Refuses fault s e e' → Headline (meaning_of_fault fault) s o o e e'
refused fault (status.Value n) o e e' h = (h.0, Grows-nil o, h.1)
refused fault status.Usage o e e' h = (h.0, Grows-nil o, h.1)
refused fault status.ModuleFault o e e' h = (h.0, Grows-nil o, h.1)
refused fault status.FileFault o e e' h = let no : status.FileFault ≡ status.ModuleFault = h.0 in absurd cc
refused fault status.InputFault o e e' h = (h.0, Grows-nil o, h.1)
refused fault status.Uncaught o e e' h = (h.0, Grows-nil o, h.1)
refused fault status.Failed o e e' h = (h.0, Grows-nil o, h.1)
refused fault status.ValueRange o e e' h = (h.0, Grows-nil o, h.1)
refused fault status.SinkFault o e e' h = inr (Grows-nil o, h)
refused fault status.OutOfMemory o e e' h = (nothing_taken o [], h)
refused fault status.Budget o e e' h = (h.0, Grows-nil o, h.1)

-- no program was made, and its fault was told
pub unprepared : (units : ℕ) (meant : Result (List (List ℕ)) Fault) (fault : Fault) (s : Status) (o e e' : Told) → meant ≡ Err fault → Refuses fault s e e' → Headline (meaning_of_prepared units meant) s o o e e'
unprepared units meant fault s o e e' h k = rw h (refused fault s o e e' k)

-- the derivation was cut, and the end of the budget was told
cut_told : (units : ℕ) (t : List ℕ) (s : Status) (o o' e e' : Told) → Grows o t o' → TellsBudget units s e e' → Headline (meaning_of_ran units (Cut t)) s o o' e e'
cut_told units t (status.Value n) o o' e e' k h = (h.0, k, h.1)
cut_told units t status.Usage o o' e e' k h = (h.0, k, h.1)
cut_told units t status.ModuleFault o o' e e' k h = (h.0, k, h.1)
cut_told units t status.FileFault o o' e e' k h = let no : status.FileFault ≡ status.Budget = h.0 in absurd cc
cut_told units t status.InputFault o o' e e' k h = (h.0, k, h.1)
cut_told units t status.Uncaught o o' e e' k h = (h.0, k, h.1)
cut_told units t status.Failed o o' e e' k h = (h.0, k, h.1)
cut_told units t status.ValueRange o o' e e' k h = (h.0, k, h.1)
cut_told units t status.SinkFault o o' e e' k h = inr (k, h)
cut_told units t status.OutOfMemory o o' e e' k h = (let P : List ℕ → Type 0 = λ front. Grows o front o' in (length t, subst P (sym (take_all (length t) t (omega arith))) k), h)
cut_told units t status.Budget o o' e e' k h = (h.0, k, h.1)

pub budget_told : (units : ℕ) (ran : Ran) (s : Status) (o o' e e' : Told) → ran ≡ Cut (printed ran) → Grows o (printed ran) o' → TellsBudget units s e e' → Headline (meaning_of_ran units ran) s o o' e e'
budget_told units (Done v n t) s o o' e e' h k p = absurd cc
budget_told units (Cut t) s o o' e e' h k p = cut_told units t s o o' e e' k p

-- Which files were asked for.

-- nothing was asked for
asked_nothing : (a : Asked) → a ≡ asked_after a []
asked_nothing None = refl
asked_nothing (Some paths) = ap Some (sym (append-nil paths))

pub usage_asked : (holds : Holds) (words : List (List ℕ)) (a : Asked) → asked_of words ≡ None → IfSome holds (λ held. AsksFor (paths words held) status.Usage a a)
usage_asked None words a h = tt
usage_asked (Some held) words a h = rw h (asked_nothing a)

pub usage_failed_asked : (holds : Holds) (words : List (List ℕ)) (a : Asked) → asked_of words ≡ None → IfSome holds (λ held. AsksFor (paths words held) status.SinkFault a a)
usage_failed_asked None words a h = tt
usage_failed_asked (Some held) words a h = rw h (asked_nothing a)

pub memory_asked : (holds : Holds) (words : List (List ℕ)) (a : Asked) → IfSome holds (λ held. AsksFor (paths words held) status.OutOfMemory a a)
memory_asked None words a = tt
memory_asked (Some held) words a = (0, asked_nothing a)

-- all were asked for, of which there is a first one
asked_all : (path : List ℕ) (more : List (List ℕ)) (s : Status) (a a' : Asked) → a' ≡ asked_after a (path ∷ more) → AsksFor (path ∷ more) s a a'
asked_all path more (status.Value n) a a' h = h
asked_all path more status.Usage a a' h = h
asked_all path more status.ModuleFault a a' h = h
asked_all path more status.FileFault a a' h = (length more, omega arith, h ∙ ap (asked_after a) (sym (rw (add-one (length more)) (ap (λ v. path ∷ v) (take_all (length more) more (omega arith))))))
asked_all path more status.InputFault a a' h = h
asked_all path more status.Uncaught a a' h = h
asked_all path more status.Failed a a' h = h
asked_all path more status.ValueRange a a' h = h
asked_all path more status.SinkFault a a' h = h
asked_all path more status.OutOfMemory a a' h = (suc (length more), h ∙ ap (asked_after a) (sym (ap (λ v. path ∷ v) (take_all (length more) more (omega arith)))))
asked_all path more status.Budget a a' h = h

pub loaded_asked : (holds : Holds) (root name : List ℕ) (s : Status) (a a' a'' : Asked) → IfSome holds (λ held. a' ≡ asked_after a (paths_of held root name)) → a'' ≡ a' → IfSome holds (λ held. AsksFor (paths_of held root name) s a a'')
loaded_asked None root name s a a' a'' h k = tt
loaded_asked (Some held) root name s a a' a'' h k =
    let first = load_of-asks held root name in
    let P : List (List ℕ) → Type 0 = λ paths. AsksFor paths s a a'' in
    subst P (sym first.1) (asked_all (path_of root name) first.0 s a a'' (k ∙ h ∙ ap (asked_after a) first.1))
