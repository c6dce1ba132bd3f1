-- The phrase that a search finds is what the definition says.
use Rattle.std.proofs.Common.{◌≡◌, ℕ, List, Some, None, Err, sym, ◌∙◌, ap, subst}
use Rattle.rl_phrase.specs.Tree.{Tree, only}
use Rattle.rl_phrase.specs.Phr.{Fails, Gives, outcome_of}
use Rattle.rl_phrase.specs.Depth.{first_below}
use Rattle.rl_phrase_table.specs.declared.rules.TheConstants.{MODULE, RULES}
use Rattle.rl_reader.specs.declared.source.Source.{Source}
use Rattle.rl_reader.specs.Source.{place_at}
use Rattle.rl_phrase.specs.Answer.{Answers as PhraseAnswers}
use Rattle.rl_phrase.specs.declared.phrase.PhraseFault.{PhraseFault}
use Rattle.rl_phrase.specs.declared.phrase.PhraseFault.TheVariants as phrase_fault
use Rattle.rl_reader.specs.declared.read.ReadFault.{ReadFault}
use Rattle.rl_reader.specs.Read.{Answers, Refused, as_phrase_fault, of_depth, of_outcome, of_source, of_tree}

pub found : (source : Source) (path name : List ℕ) (tree : Tree) (next far : ℕ) → outcome_of source.tokens RULES.now MODULE ≡ Gives (only tree) next far → first_below tree 1000 ≡ None → of_source source path name ≡ of_tree source path name tree
unfolding of_source of_outcome
found source path name tree next far e f = ap (of_outcome source path name) e ∙ ap (of_depth source path name tree) f

pub deep : (source : Source) (path name : List ℕ) (tree : Tree) (next far token : ℕ) → outcome_of source.tokens RULES.now MODULE ≡ Gives (only tree) next far → first_below tree 1000 ≡ Some token → of_source source path name ≡ Refused (place_at source token) 10
unfolding of_source of_outcome
deep source path name tree next far token e f = ap (of_outcome source path name) e ∙ ap (of_depth source path name tree) f

pub stopped : (source : Source) (path name : List ℕ) (token : ℕ) → outcome_of source.tokens RULES.now MODULE ≡ Fails token → of_source source path name ≡ Refused (place_at source token) 9
unfolding of_source of_outcome
stopped source path name token e = ap (of_outcome source path name) e

-- that tokens are no phrase is told as reading gives it
pub phrase_told : (source : Source) (path name : List ℕ) (answer : PhraseFault) (r : ReadFault) → PhraseAnswers source.tokens RULES.now MODULE (Err answer) → r ≡ as_phrase_fault source answer → Answers (of_source source path name) (Err r)
phrase_told source path name (phrase_fault.Stopped token) r a e =
    subst (λ x. Answers (of_source source path name) (Err x)) (sym e) (stopped source path name token a)
phrase_told source path name (phrase_fault.TooDeep token) r a e =
    subst (λ x. Answers (of_source source path name) (Err x)) (sym e) (deep source path name a.0 a.1.0 a.1.1 token a.1.2 a.2)
phrase_told source path name phrase_fault.OutOfMemory r a e = subst (λ x. Answers (of_source source path name) (Err x)) (sym e) tt
