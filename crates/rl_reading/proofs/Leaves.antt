-- A row gives each token once, in the order of the text.
use Rattle.std.proofs.Common.{◌≡◌, ℕ, zero, suc, ◌+◌, Bool, true, false, List, ◌∷◌, ◌++◌, Option, Some, None, refl, sym, ap, ◌∙◌, arith, append_assoc, append-nil, ◌⊎◌, inl, inr}
use Rattle.std.specs.Prelude.{slice_get, length, nat_eq, if◌then◌else◌}
use Rattle.rl_tokens.specs.Token as lexed
use Rattle.rl_phrase.specs.Terminals.{Tokens, is_terminal}
use Rattle.rl_phrase.specs.declared.table.Rule.{Rule}
use Rattle.rl_phrase.specs.declared.table.Form.{Form}
use Rattle.rl_phrase.specs.declared.table.Form.TheVariants.{Term, Link, Named, Seq, Choice, Star, Plus, Opt, Not}
use Rattle.rl_phrase.specs.Tree.{Trees, Token, Node, none, more, ◌then◌, only}
use Rattle.rl_phrase.specs.Phr.{Outcome, Fails, Gives, in_turn, first_of_rows, and_then, again, optional, negated, named, terminal, of_form, of_rule, phr, node_of, told, levels, outcome_of}
use Rattle.rl_reading.specs.Laws.{leaves, leaves_of, run}
use Rattle.rl_reading.proofs.Outcomes.{and_then_gives, or_else_gives}

leaves_then : (front behind : Trees) → leaves_of (front then behind) ≡ leaves_of front ++ leaves_of behind
leaves_then none behind = refl
leaves_then (more tree trees) behind = ap (λ xs. leaves tree ++ xs) (leaves_then trees behind) ∙ sym (append_assoc (leaves tree) (leaves_of trees) (leaves_of behind))

leaves_node : (rule from to : ℕ) (trees : Trees) → leaves_of (only (node_of rule from to trees)) ≡ leaves_of trees
leaves_node rule from to none = refl
leaves_node rule from to (more (Node r a b ps) none) = refl
leaves_node rule from to (more (Token t) none) = refl
leaves_node rule from to (more (Token t) (more u us)) = append-nil (leaves_of (more (Token t) (more u us)))
leaves_node rule from to (more (Node r a b ps) (more u us)) = append-nil (leaves_of (more (Node r a b ps) (more u us)))

run_more : (first count more_count : ℕ) → run first count ++ run (first + count) more_count ≡ run first (count + more_count)
run_more first zero more_count =
    let a : first + 0 ≡ first = omega arith in
    let b : 0 + more_count ≡ more_count = omega arith in
    ap (λ n. run n more_count) a ∙ ap (run first) (sym b)
run_more first (suc count) more_count =
    let a : first + suc count ≡ suc first + count = omega arith in
    let b : suc count + more_count ≡ suc (count + more_count) = omega arith in
    ap (λ n. first ∷ (run (suc first) count ++ run n more_count)) a ∙ (ap (λ xs. first ∷ xs) (run_more (suc first) count more_count) ∙ ap (run first) (sym b))

-- the tokens from one on up to another
pub record Takes (trees : Trees) (token next : ℕ) : Type 0 where
  pub count : ℕ
  pub reaches : next ≡ token + count
  pub are : leaves_of trees ≡ run token count

takes_none : (trees : Trees) (token next : ℕ) → trees ≡ none → next ≡ token → Takes trees token next
takes_none trees token next e f = record { count = 0; reaches = omega (arith, f); are = ap leaves_of e }

takes_nothing : (trees : Trees) (token next far f : ℕ) → Some (Gives none token f) ≡ Some (Gives trees next far) → Takes trees token next
takes_nothing trees token next far f e =
    let nothing : trees ≡ none = cc in
    let same : next ≡ token = cc in
    takes_none trees token next nothing same

takes_then : (trees front behind : Trees) (token between next : ℕ) → trees ≡ front then behind → Takes front token between → Takes behind between next → Takes trees token next
takes_then trees front behind token between next e a b =
    record {
      count = a.count + b.count;
      reaches = omega (arith, a.reaches, b.reaches);
      are = ap leaves_of e ∙ (leaves_then front behind ∙ (ap (λ xs. xs ++ leaves_of behind) a.are ∙ (ap (λ ys. run token a.count ++ ys) (b.are ∙ ap (λ n. run n b.count) a.reaches) ∙ run_more token a.count b.count)));
    }

module _ (tokens : Tokens) (rules : List Rule) where
  abbrev All : ℕ → Type 0
  All n = (row token : ℕ) (trees : Trees) (next far : ℕ) → phr tokens rules n row token ≡ Some (Gives trees next far) → Takes trees token next

  module _ (n : ℕ) (below : All n) where
    turn_takes : (first count token : ℕ) (trees : Trees) (next far : ℕ) → in_turn (phr tokens rules n) first count token ≡ Some (Gives trees next far) → Takes trees token next
    turn_takes first zero token trees next far e = takes_nothing trees token next far 0 e
    turn_takes first (suc count) token trees next far e =
        let found = and_then_gives (phr tokens rules n first token) (in_turn (phr tokens rules n) (first + 1) count) trees next far e in
        takes_then trees found.front found.behind token found.between next found.are
        (below first token found.front found.between found.front_far found.first_gives)
        (turn_takes (first + 1) count found.between found.behind next found.behind_far found.go_gives)

    one_takes : (first count token : ℕ) (trees : Trees) (next far : ℕ) → first_of_rows (phr tokens rules n) first count token ≡ Some (Gives trees next far) → Takes trees token next
    one_takes first zero token trees next far e = absurd cc
    one_takes first (suc count) token trees next far e =
        by (or_else_gives (phr tokens rules n first token) (first_of_rows (phr tokens rules n) (first + 1) count token) trees next far e) (one_takes (first + 1) count token trees next)
      where
        by : ((f : ℕ) × (phr tokens rules n first token ≡ Some (Gives trees next f))) ⊎ ((f : ℕ) × (first_of_rows (phr tokens rules n) (first + 1) count token ≡ Some (Gives trees next f)))
            → ((f : ℕ) → first_of_rows (phr tokens rules n) (first + 1) count token ≡ Some (Gives trees next f) → Takes trees token next) → Takes trees token next
        by (inl found) others = below first token trees next found.0 found.1
        by (inr found) others = others found.0 found.1

    maybe_takes : (token : ℕ) (o : Option Outcome) (trees : Trees) (next far : ℕ) → optional token o ≡ Some (Gives trees next far)
        → ((f : ℕ) → o ≡ Some (Gives trees next f) → Takes trees token next) → Takes trees token next
    maybe_takes token None trees next far e h = absurd cc
    maybe_takes token (Some (Fails f)) trees next far e h = takes_nothing trees token next far f e
    maybe_takes token (Some (Gives us m f)) trees next far e h =
        let same : Some (Gives us m f) ≡ Some (Gives trees next f) = cc in
        h f same

    again_takes : (row first count token : ℕ) (trees : Trees) (next far : ℕ)
        → and_then (in_turn (phr tokens rules n) first count token) (again (phr tokens rules n row) token) ≡ Some (Gives trees next far) → Takes trees token next
    again_takes row first count token trees next far e =
        let found = and_then_gives (in_turn (phr tokens rules n) first count token) (again (phr tokens rules n row) token) trees next far e in
        takes_then trees found.front found.behind token found.between next found.are
        (turn_takes first count token found.front found.between found.front_far found.first_gives)
        (more_takes found.between found.behind found.behind_far found.go_gives)
      where
        more_takes : (between : ℕ) (behind : Trees) (f : ℕ) → again (phr tokens rules n row) token between ≡ Some (Gives behind next f) → Takes behind between next
        more_takes between behind f e' = by (nat_eq between token) e'
          where
            by : (b : Bool) → (if b then Some (Gives none between 0) else optional between (phr tokens rules n row between)) ≡ Some (Gives behind next f) → Takes behind between next
            by true e'' = takes_nothing behind between next f 0 e''
            by false e'' = maybe_takes between (phr tokens rules n row between) behind next f e'' (λ g h. below row between behind next g h)

    term_takes : (kind token : ℕ) (o : Option lexed.Token) (trees : Trees) (next far : ℕ) → Some (terminal kind token o) ≡ Some (Gives trees next far) → Takes trees token next
    term_takes kind token None trees next far e = absurd cc
    term_takes kind token (Some t) trees next far e = by (is_terminal t kind) e
      where
        by : (b : Bool) → Some (if b then Gives (only (Token token)) (token + 1) 0 else Fails token) ≡ Some (Gives trees next far) → Takes trees token next
        by true e' = record { count = 1; reaches = cc; are = ap leaves_of (the_trees e') }
          where
            the_trees : Some (Gives (only (Token token)) (token + 1) 0) ≡ Some (Gives trees next far) → trees ≡ only (Token token)
            the_trees e'' = cc
        by false e' = absurd cc

    not_takes : (token : ℕ) (o : Option Outcome) (trees : Trees) (next far : ℕ) → negated token o ≡ Some (Gives trees next far) → Takes trees token next
    not_takes token None trees next far e = absurd cc
    not_takes token (Some (Fails f)) trees next far e = takes_nothing trees token next far f e
    not_takes token (Some (Gives us m f)) trees next far e = absurd cc

    named_takes : (row token : ℕ) (o : Option Outcome) (trees : Trees) (next far : ℕ) → named row token o ≡ Some (Gives trees next far)
        → ((us : Trees) (f : ℕ) → o ≡ Some (Gives us next f) → Takes us token next) → Takes trees token next
    named_takes row token None trees next far e h = absurd cc
    named_takes row token (Some (Fails f)) trees next far e h = absurd cc
    named_takes row token (Some (Gives us m f)) trees next far e h =
        let same : Some (Gives us m f) ≡ Some (Gives us next f) = cc in
        let inside = h us f same in
        let node : trees ≡ only (node_of row token m us) = cc in
        record { count = inside.count; reaches = inside.reaches; are = ap leaves_of node ∙ (leaves_node row token m us ∙ inside.are) }

    form_takes : (form : Form) (row first count token : ℕ) (trees : Trees) (next far : ℕ) → of_form tokens (phr tokens rules n) row form first count token ≡ Some (Gives trees next far) → Takes trees token next
    form_takes (Term kind) row first count token trees next far e = term_takes kind token (slice_get tokens token) trees next far e
    form_takes Link row first count token trees next far e = below first token trees next far e
    form_takes Named row first count token trees next far e =
        named_takes row token (in_turn (phr tokens rules n) first count token) trees next far e (λ us f h. turn_takes first count token us next f h)
    form_takes Seq row first count token trees next far e = turn_takes first count token trees next far e
    form_takes Choice row first count token trees next far e = one_takes first count token trees next far e
    form_takes Star row first count token trees next far e =
        maybe_takes token (and_then (in_turn (phr tokens rules n) first count token) (again (phr tokens rules n row) token)) trees next far e (λ f h. again_takes row first count token trees next f h)
    form_takes Plus row first count token trees next far e = again_takes row first count token trees next far e
    form_takes Opt row first count token trees next far e = maybe_takes token (in_turn (phr tokens rules n) first count token) trees next far e (λ f h. turn_takes first count token trees next f h)
    form_takes Not row first count token trees next far e = not_takes token (in_turn (phr tokens rules n) first count token) trees next far e

    rule_takes : (row token : ℕ) (o : Option Rule) (trees : Trees) (next far : ℕ) → of_rule tokens (phr tokens rules n) row o token ≡ Some (Gives trees next far) → Takes trees token next
    rule_takes row token None trees next far e = absurd cc
    rule_takes row token (Some rule) trees next far e = form_takes rule.form row rule.first rule.count token trees next far e

  takes : (n : ℕ) → All n
  takes zero row token trees next far e = absurd cc
  takes (suc n) row token trees next far e = rule_takes n (takes n) row token (slice_get rules row) trees next far e

told_gives : (o : Option Outcome) (trees : Trees) (next far : ℕ) → told o ≡ Gives trees next far → o ≡ Some (Gives trees next far)
told_gives None trees next far e = absurd cc
told_gives (Some outcome) trees next far e = ap Some e

pub each_token : (tokens : Tokens) (rules : List Rule) (row : ℕ) (trees : Trees) (next far : ℕ) → outcome_of tokens rules row ≡ Gives trees next far → leaves_of trees ≡ run 0 next
unfolding outcome_of
each_token tokens rules row trees next far e =
    let n : ℕ = levels (length rules) (length tokens) in
    let found = takes tokens rules n row 0 trees next far (told_gives (phr tokens rules n row 0) trees next far e) in
    let same : found.count ≡ next = omega (arith, found.reaches) in
    found.are ∙ ap (run 0) same
