-- A named row gives a node.
use Rattle.std.proofs.Common.{◌≡◌, ℕ, suc, List, Option, Some, None, Result, Ok, Err, refl, sym, ap, ◌∙◌, subst, arith, append-nil, Vec, Global}
use Rattle.std.specs.Prelude.{slice_get}
use Rattle.rl_phrase.specs.Terminals.{Tokens}
use Rattle.rl_phrase.specs.declared.table.Rule.{Rule}
use Rattle.rl_phrase.specs.declared.table.Form.{Form}
use Rattle.rl_phrase.specs.declared.tree.Phrase.{Phrase}
use Rattle.rl_phrase.specs.declared.phrase.PhraseFault.{PhraseFault}
use Rattle.rl_phrase.specs.declared.phrase.PhraseFault.TheVariants.{Stopped, TooDeep, OutOfMemory}
use Rattle.rl_phrase.specs.declared.search.Ending.{Ending}
use Rattle.rl_phrase.specs.declared.search.Ending.TheVariants.{Failed, Found}
use Rattle.rl_phrase.specs.declared.steps.Step.{Step}
use Rattle.rl_phrase.specs.Tree.{Tree, Trees, Token, Node, none, more, only}
use Rattle.rl_phrase.specs.Phr.{Outcome, Fails, Gives, Phr, phr, in_turn, named, node_of, of_rule, of_form, outcome_of}
use Rattle.rl_phrase.specs.Steps.{tree_steps, steps_of}
use Rattle.rl_phrase.specs.Search.{Shows}
use Rattle.rl_phrase.specs.Depth.{first_below}
use Rattle.rl_phrase.specs.LeftRecursion.{HasNoLeftRecursion}
use Rattle.rl_phrase.specs.Answer.{IsNamed, GivesTree, AnswersTree, Answers}
use Rattle.rl_phrase.proofs.Determined.{outcome_is}

pub record IsNode (tree : Tree) : Type 0 where
  pub rule : ℕ
  pub from : ℕ
  pub to : ℕ
  pub parts : Trees
  pub is : tree ≡ Node rule from to parts

node_is : (rule from to : ℕ) (ts : Trees) → IsNode (node_of rule from to ts)
node_is rule from to none = record { rule = rule; from = from; to = to; parts = none; is = refl }
node_is rule from to (more (Node r f t ps) none) = record { rule = r; from = f; to = t; parts = ps; is = refl }
node_is rule from to (more (Token t) none) = record { rule = rule; from = from; to = to; parts = only (Token t); is = refl }
node_is rule from to (more t (more u us)) = record { rule = rule; from = from; to = to; parts = more t (more u us); is = refl }

named_one : (row k : ℕ) (o : Option Outcome) (ts : Trees) (next far : ℕ) → named row k o ≡ Some (Gives ts next far) → (tree : Tree) × IsNode tree × (ts ≡ only tree)
named_one row k None ts next far e = cc
named_one row k (Some (Fails f)) ts next far e = cc
named_one row k (Some (Gives us to f)) ts next far e = (node_of row k to us, node_is row k to us, cc)

-- what a machine that has found something shows of a named row
pub record FoundNode (tokens : Tokens) (rules : List Rule) (row : ℕ) (steps : List Step) : Type 0 where
  pub tree : Tree
  pub node : IsNode tree
  pub gives : GivesTree tokens rules row tree
  pub are : steps ≡ tree_steps tree

pub found_node : (tokens : Tokens) (rules : List Rule) (row : ℕ) (steps : List Step) (ts : Trees) (next far : ℕ) → IsNamed rules row → HasNoLeftRecursion rules → Phr tokens rules row 0 (Gives ts next far) → steps ≡ steps_of ts → FoundNode tokens rules row steps
found_node tokens rules row steps ts next far is free p e =
    let rule = is.0 in
    let n = p.enough in
    let tells : of_rule tokens (phr tokens rules n) row (slice_get rules row) 0 ≡ Some (Gives ts next far) = p.tells (suc n) (omega arith) in
    let tells' : of_form tokens (phr tokens rules n) row rule.form rule.first rule.count 0 ≡ Some (Gives ts next far) = sym (ap (λ o. of_rule tokens (phr tokens rules n) row o 0) is.1) ∙ tells in
    let tells'' : named row 0 (in_turn (phr tokens rules n) rule.first rule.count 0) ≡ Some (Gives ts next far) = sym (ap (λ (f : Form). of_form tokens (phr tokens rules n) row f rule.first rule.count 0) is.2) ∙ tells' in
    let one = named_one row 0 (in_turn (phr tokens rules n) rule.first rule.count 0) ts next far tells'' in
    record {
      tree = one.0;
      node = one.1;
      gives = (next, far, outcome_is tokens rules row (Gives ts next far) free p ∙ ap (λ us. Gives us next far) one.2);
      are = e ∙ ap steps_of one.2 ∙ append-nil (tree_steps one.0);
    }

pub shown_node : (tokens : Tokens) (rules : List Rule) (row : ℕ) (steps : Vec Step Global) (at : ℕ) (e : Ending) → IsNamed rules row → HasNoLeftRecursion rules → Shows tokens rules row e → e ≡ Found steps at → FoundNode tokens rules row steps.items
shown_node tokens rules row steps at e is free s q =
    let t = subst (λ x. Shows tokens rules row x) q s in
    found_node tokens rules row steps.items t.0 at t.1 is free t.2 t.3

pub shown_failure : (tokens : Tokens) (rules : List Rule) (row far : ℕ) (e : Ending) → HasNoLeftRecursion rules → Shows tokens rules row e → e ≡ Failed far → outcome_of tokens rules row ≡ Fails far
shown_failure tokens rules row far e free s q = outcome_is tokens rules row (Fails far) free (subst (λ x. Shows tokens rules row x) q s)

pub answered : (tokens : Tokens) (rules : List Rule) (row : ℕ) (tree : Tree) (result : Result Phrase PhraseFault) → GivesTree tokens rules row tree → AnswersTree tree result → Answers tokens rules row result
answered tokens rules row tree (Ok p) g a = (subst (λ t. GivesTree tokens rules row t) (sym a.0) g, subst (λ t. first_below t 1000 ≡ None) (sym a.0) a.1)
answered tokens rules row tree (Err (TooDeep token)) g a = (tree, g, a)
answered tokens rules row tree (Err OutOfMemory) g a = tt
answered tokens rules row tree (Err (Stopped token)) g a = absurd a
