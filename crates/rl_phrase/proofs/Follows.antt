-- The machine does what the table says.
use Rattle.std.proofs.Common.{◌≡◌, ℕ, zero, suc, ◌+◌, ◌<◌, ◌≤◌, max, nat_eq, nat_lt, Bool, true, false, cond, List, [], ◌∷◌, length, Option, Some, None, refl, sym, ap, ◌∙◌, subst, arith}
use Rattle.std.specs.Prelude.{slice_get}
use Rattle.std.proofs.lemmas.Bool.{lt-ltb, le-ltb}
use Rattle.rl_tokens.specs.Token as lexed
use Rattle.rl_phrase.specs.Terminals.{Tokens, is_terminal}
use Rattle.rl_phrase.specs.declared.table.Rule.{Rule}
use Rattle.rl_phrase.specs.declared.table.Form.{Form}
use Rattle.rl_phrase.specs.declared.table.Form.TheVariants.{Term, Link, Named, Seq, Choice, Star, Plus, Opt, Not}
use Rattle.rl_phrase.specs.Tree.{Tree, Trees, Token, none, more, ◌then◌, only}
use Rattle.rl_phrase.specs.Phr.{Outcome, Fails, Gives, Meaning, after, and_then, or_else, in_turn, first_of_rows, optional, negated, again, node_of, named, terminal, of_form, of_rule, phr}
use Rattle.rl_phrase.specs.Machine.{onto, turned_on, turned, Pending, Parts, Choices, Naming, Turns, Optional, Negated, State, Calling, Going, Failing, called, called_form, called_terminal, succeeded, failed, turn, depth, Path, done}

pub onto-then : (ts us : Trees) (ps : List Tree) → onto (ts then us) ps ≡ onto us (onto ts ps)
onto-then none us ps = refl
onto-then (more t ts) us ps = onto-then ts us (t ∷ ps)

turned-onto_more : (ts us : Trees) (ps : List Tree) → turned_on (onto ts ps) us ≡ turned_on ps (ts then us)
turned-onto_more none us ps = refl
turned-onto_more (more t ts) us ps = turned-onto_more ts us (t ∷ ps)

then-none : (ts : Trees) → (ts then none) ≡ ts
then-none none = refl
then-none (more t ts) = ap (λ x. more t x) (then-none ts)

pub turned-onto : (ts : Trees) → turned (onto ts []) ≡ ts
turned-onto ts = turned-onto_more ts none [] ∙ then-none ts

max_assoc : (a b c : ℕ) → max (max a b) c ≡ max a (max b c)
max_assoc a b c = omega arith

module _ (tokens : Tokens) (rows : List Rule) where
  pub path_on : (a b floor : ℕ) (c d e : State) → Path tokens rows a floor c d → Path tokens rows b floor d e → Path tokens rows (a + b) floor c e
  path_on zero b floor c d e p q =
      let z : 0 + b ≡ b = omega arith in
      subst (λ n. Path tokens rows n floor c e) (sym z) (subst (λ x. Path tokens rows b floor x e) (sym p) q)
  path_on (suc a) b floor c d e p q =
      let z : suc a + b ≡ suc (a + b) = omega arith in
      subst (λ n. Path tokens rows n floor c e) (sym z) (p.0, (p.1.0, (p.1.1.0, path_on a b floor p.1.0 d e p.1.1.1 q)))

  pub lower : (n floor under : ℕ) (c d : State) → under ≤ floor → Path tokens rows n floor c d → Path tokens rows n under c d
  lower zero floor under c d le p = p
  lower (suc n) floor under c d le p = let lt = p.0 in (omega arith, (p.1.0, (p.1.1.0, lower n floor under p.1.0 d le p.1.1.1)))

  -- the machine goes from one state to another above the floor, in at most b turns
  pub record Goes (b floor : ℕ) (c d : State) : Type 0 where
    pub steps : ℕ
    pub within : steps ≤ b
    pub path : Path tokens rows steps floor c d

  stays : (floor : ℕ) (c : State) → Goes 0 floor c c
  stays floor c = record { steps = 0; within = omega arith; path = refl }

  turns : (floor : ℕ) (c d : State) → floor < depth c → turn tokens rows c ≡ Some d → Goes 1 floor c d
  turns floor c d lt e = record { steps = 1; within = omega arith; path = (lt, (d, (e, refl))) }

  goes_on : (a b n floor : ℕ) (c d e : State) → a + b ≤ n → Goes a floor c d → Goes b floor d e → Goes n floor c e
  goes_on a b n floor c d e le l m =
      let la = l.within in
      let lb = m.within in
      record { steps = l.steps + m.steps; within = omega arith; path = path_on l.steps m.steps floor c d e l.path m.path }

  goes_lower : (b floor under : ℕ) (c d : State) → under ≤ floor → Goes b floor c d → Goes b under c d
  goes_lower b floor under c d le g = record { steps = g.steps; within = g.within; path = lower g.steps floor under c d le g.path }

  -- from c the machine does what the outcome says above the floor, where these are the frames, the trees and the furthest token before
  abbrev pub Does : (floor b : ℕ) → State → List Pending → List Tree → ℕ → Option Outcome → Type 0
  Does floor b c fs ps far None = Unit {0}
  Does floor b c fs ps far (Some o) = Goes b floor c (done o fs ps far)

  -- first some turns, and then that
  goes_does : (floor a b n : ℕ) (c d : State) (fs : List Pending) (ps : List Tree) (far : ℕ) (o : Option Outcome) → a + b ≤ n → Goes a floor c d → Does floor b d fs ps far o → Does floor n c fs ps far o
  goes_does floor a b n c d fs ps far None le g h = tt
  goes_does floor a b n c d fs ps far (Some o) le g h = goes_on a b n floor _ _ _ le g h

  wider : (floor a n : ℕ) (c : State) (fs : List Pending) (ps : List Tree) (far : ℕ) (o : Option Outcome) → a ≤ n → Does floor a c fs ps far o → Does floor n c fs ps far o
  wider floor a n c fs ps far o le d = goes_does floor 0 a n c c fs ps far o (omega arith) (stays floor c) d

  does_lower : (floor under b : ℕ) (c : State) (fs : List Pending) (ps : List Tree) (far : ℕ) (o : Option Outcome) → under ≤ floor → Does floor b c fs ps far o → Does under b c fs ps far o
  does_lower floor under b c fs ps far None le h = tt
  does_lower floor under b c fs ps far (Some o) le h = goes_lower b floor under _ _ le h

  -- the same state under another name
  goes_to : (b floor : ℕ) (c d d' : State) → d ≡ d' → Goes b floor c d → Goes b floor c d'
  goes_to b floor c d d' e g = subst (λ x. Goes b floor c x) e g

  -- what comes after trees
  after_does : (floor b : ℕ) (c : State) (fs : List Pending) (ps : List Tree) (far : ℕ) (ts : Trees) (f : ℕ) (o : Option Outcome) → Does floor b c fs (onto ts ps) (max far f) o → Does floor b c fs ps far (after ts f o)
  after_does floor b c fs ps far ts f None h = tt
  after_does floor b c fs ps far ts f (Some (Fails g)) h = goes_to b floor c _ _ (ap (λ m. Failing fs m) (max_assoc far f g)) h
  after_does floor b c fs ps far ts f (Some (Gives us next g)) h =
      goes_to b floor c _ _ (ap (λ m. Going next fs (onto us (onto ts ps)) m) (max_assoc far f g) ∙ ap (λ x. Going next fs x (max far (max f g))) (sym (onto-then ts us ps))) h

  -- a part, and what follows it: the frame on top hands a failure on
  and_does : (a b n : ℕ) (c : State) (top : Pending) (fs : List Pending) (ps : List Tree) (far : ℕ) (o : Option Outcome) (go : ℕ → Option Outcome) → a + 1 ≤ n → a + b ≤ n
      → Does (length fs) a c (top ∷ fs) ps far o
      → ((m : ℕ) → failed top fs m ≡ Failing fs m)
      → ((ts : Trees) (next f : ℕ) → Does (length fs) b (Going next (top ∷ fs) (onto ts ps) (max far f)) fs (onto ts ps) (max far f) (go next))
      → Does (length fs) n c fs ps far (and_then o go)
  and_does a b n c top fs ps far None go la lb h hf hg = tt
  and_does a b n c top fs ps far (Some (Fails f)) go la lb h hf hg =
      goes_on a 1 n (length fs) _ _ _ la h (turns (length fs) _ _ (omega arith) (ap Some (hf (max far f))))
  and_does a b n c top fs ps far (Some (Gives ts next f)) go la lb h hf hg =
      after_does (length fs) n c fs ps far ts f (go next) (goes_does (length fs) a b n _ _ fs _ _ (go next) lb h (hg ts next f))

  -- the rows from first on, each in its turn
  abbrev pub parts_cost : (ℕ → ℕ) → ℕ → ℕ → ℕ
  parts_cost cost first zero = 1
  parts_cost cost first (suc count) = 1 + cost first + parts_cost cost (first + 1) count

  cost_positive : (cost : ℕ → ℕ) (first count : ℕ) → 1 ≤ parts_cost cost first count
  cost_positive cost first zero = omega arith
  cost_positive cost first (suc count) = omega arith

  abbrev pub Follows : Meaning → (ℕ → ℕ) → Type 0
  Follows m cost = (row at : ℕ) (fs : List Pending) (ps : List Tree) (far : ℕ) → Does (length fs) (cost row) (Calling row at fs ps far) fs ps far (m row at)

  max_none : (far : ℕ) → far ≡ max far 0
  max_none far = omega arith

  ends_here : (floor b at : ℕ) (fs : List Pending) (ps : List Tree) (far : ℕ) (c : State) → Goes b floor c (Going at fs ps far) → Does floor b c fs ps far (Some (Gives none at 0))
  ends_here floor b at fs ps far c g = goes_to b floor c _ _ (ap (λ m. Going at fs ps m) (max_none far)) g

  -- a call of a row under a frame
  calls : (m : Meaning) (cost : ℕ → ℕ) → Follows m cost → (row at : ℕ) (top : Pending) (fs : List Pending) (ps : List Tree) (far : ℕ) (c : State)
      → Goes 1 (length fs) c (Calling row at (top ∷ fs) ps far) → Does (length fs) (1 + cost row) c (top ∷ fs) ps far (m row at)
  calls m cost h row at top fs ps far c g =
      goes_does (length fs) 1 (cost row) (1 + cost row) _ _ (top ∷ fs) ps far (m row at) (omega arith) g
      (does_lower (length (top ∷ fs)) (length fs) (cost row) _ (top ∷ fs) ps far (m row at) (omega arith) (h row at (top ∷ fs) ps far))

  pub parts_do : (m : Meaning) (cost : ℕ → ℕ) → Follows m cost → (count first end : ℕ) → end ≡ first + count → (at : ℕ) (fs : List Pending) (ps : List Tree) (far : ℕ)
      → Does (length fs) (parts_cost cost first count) (Going at (Parts first end ∷ fs) ps far) fs ps far (in_turn m first count at)
  parts_do m cost h zero first end e at fs ps far =
      let no : nat_lt first end ≡ false = le-ltb first end (omega arith) in
      ends_here (length fs) 1 at fs ps far _ (turns (length fs) _ _ (omega arith) (ap (λ b. Some (cond b (Calling first at (Parts (first + 1) end ∷ fs) ps far) (Going at fs ps far))) no))
  parts_do m cost h (suc count) first end e at fs ps far =
      let yes : nat_lt first end ≡ true = lt-ltb first end (omega arith) in
      let top = Parts (first + 1) end in
      let start = turns (length fs) (Going at (Parts first end ∷ fs) ps far) (Calling first at (top ∷ fs) ps far) (omega arith) (ap (λ b. Some (cond b (Calling first at (top ∷ fs) ps far) (Going at fs ps far))) yes) in
      let pos = cost_positive cost (first + 1) count in
      and_does (1 + cost first) (parts_cost cost (first + 1) count) _ _ top fs ps far (m first at) (in_turn m (first + 1) count) (omega arith) (omega arith)
      (calls m cost h first at top fs ps far _ start)
      (λ n. refl)
      (λ ts next f. parts_do m cost h count (first + 1) end (omega arith) next fs _ _)

  after_none : (floor b : ℕ) (c : State) (fs : List Pending) (ps : List Tree) (far f : ℕ) (o : Option Outcome) → Does floor b c fs ps (max far f) o → Does floor b c fs ps far (after none f o)
  after_none floor b c fs ps far f o h = after_does floor b c fs ps far none f o h

  -- a row, and the other where it fails: the frame on top hands a success on
  or_does : (a b n : ℕ) (c : State) (top : Pending) (fs : List Pending) (ps : List Tree) (far : ℕ) (o other : Option Outcome) → a + 1 ≤ n → a + b ≤ n
      → Does (length fs) a c (top ∷ fs) ps far o
      → ((next : ℕ) (qs : List Tree) (m : ℕ) → succeeded next top fs qs m ≡ Going next fs qs m)
      → ((f : ℕ) → Does (length fs) b (Failing (top ∷ fs) (max far f)) fs ps (max far f) other)
      → Does (length fs) n c fs ps far (or_else o other)
  or_does a b n c top fs ps far None other la lb h hs hf = tt
  or_does a b n c top fs ps far (Some (Fails f)) other la lb h hs hf =
      after_none (length fs) n c fs ps far f other (goes_does (length fs) a b n _ _ fs ps (max far f) other lb h (hf f))
  or_does a b n c top fs ps far (Some (Gives ts next f)) other la lb h hs hf =
      goes_on a 1 n (length fs) _ _ _ la h (turns (length fs) _ _ (omega arith) (ap Some (hs next (onto ts ps) (max far f))))

  choices_do : (m : Meaning) (cost : ℕ → ℕ) → Follows m cost → (count first end : ℕ) → end ≡ first + count → (at : ℕ) (fs : List Pending) (ps : List Tree) (far : ℕ)
      → Does (length fs) (parts_cost cost first count) (Failing (Choices first end at ps ∷ fs) far) fs ps far (first_of_rows m first count at)
  choices_do m cost h zero first end e at fs ps far =
      let no : nat_lt first end ≡ false = le-ltb first end (omega arith) in
      let step = turns (length fs) (Failing (Choices first end at ps ∷ fs) far) (Failing fs far) (omega arith) (ap (λ b. Some (cond b (Calling first at (Choices (first + 1) end at ps ∷ fs) ps far) (Failing fs far))) no) in
      goes_to 1 (length fs) _ _ _ (ap (λ m. Failing fs m) (max_none far)) step
  choices_do m cost h (suc count) first end e at fs ps far =
      let yes : nat_lt first end ≡ true = lt-ltb first end (omega arith) in
      let top = Choices (first + 1) end at ps in
      let start = turns (length fs) (Failing (Choices first end at ps ∷ fs) far) (Calling first at (top ∷ fs) ps far) (omega arith) (ap (λ b. Some (cond b (Calling first at (top ∷ fs) ps far) (Failing fs far))) yes) in
      let pos = cost_positive cost (first + 1) count in
      or_does (1 + cost first) (parts_cost cost (first + 1) count) _ _ top fs ps far (m first at) (first_of_rows m (first + 1) count at) (omega arith) (omega arith)
      (calls m cost h first at top fs ps far _ start)
      (λ next qs n. refl)
      (λ f. choices_do m cost h count (first + 1) end (omega arith) at fs ps (max far f))

  -- back to where a frame says
  back_to : (a : ℕ) (c : State) (top : Pending) (at : ℕ) (fs : List Pending) (ps : List Tree) (far f : ℕ)
      → Goes a (length fs) c (Failing (top ∷ fs) (max far f))
      → failed top fs (max far f) ≡ Going at fs ps (max far f)
      → Does (length fs) (a + 1) c fs ps far (Some (Gives none at f))
  back_to a c top at fs ps far f g hf = goes_on a 1 (a + 1) (length fs) _ _ _ (omega arith) g (turns (length fs) _ _ (omega arith) (ap Some hf))

  optional_does : (a at : ℕ) (c : State) (fs : List Pending) (ps : List Tree) (far : ℕ) (o : Option Outcome) → Does (length fs) a c (Optional at ps ∷ fs) ps far o → Does (length fs) (a + 1) c fs ps far (optional at o)
  optional_does a at c fs ps far None h = tt
  optional_does a at c fs ps far (Some (Fails f)) h = back_to a c (Optional at ps) at fs ps far f h refl
  optional_does a at c fs ps far (Some (Gives ts next f)) h = goes_on a 1 (a + 1) (length fs) _ _ _ (omega arith) h (turns (length fs) _ _ (omega arith) refl)

  negated_does : (a at : ℕ) (c : State) (fs : List Pending) (ps : List Tree) (far : ℕ) (o : Option Outcome) → Does (length fs) a c (Negated at ps ∷ fs) ps far o → Does (length fs) (a + 1) c fs ps far (negated at o)
  negated_does a at c fs ps far None h = tt
  negated_does a at c fs ps far (Some (Fails f)) h = back_to a c (Negated at ps) at fs ps far f h refl
  negated_does a at c fs ps far (Some (Gives ts next f)) h = goes_on a 1 (a + 1) (length fs) _ _ _ (omega arith) h (turns (length fs) _ _ (omega arith) refl)

  none_max : (f : ℕ) → max 0 f ≡ f
  none_max f = omega arith

  named_does : (a row from : ℕ) (c : State) (fs : List Pending) (ps : List Tree) (far : ℕ) (o : Option Outcome) → Does (length fs) a c (Naming row from ps far ∷ fs) [] 0 o → Does (length fs) (a + 1) c fs ps far (named row from o)
  named_does a row from c fs ps far None h = tt
  named_does a row from c fs ps far (Some (Fails f)) h =
      goes_on a 1 (a + 1) (length fs) _ _ _ (omega arith) h (turns (length fs) _ _ (omega arith) (ap (λ m. Some (Failing fs (max far m))) (none_max f)))
  named_does a row from c fs ps far (Some (Gives ts to f)) h =
      goes_on a 1 (a + 1) (length fs) _ _ _ (omega arith) h (turns (length fs) _ _ (omega arith)
      (ap (λ m. Some (Going to fs (node_of row from to (turned (onto ts [])) ∷ ps) (max far m))) (none_max f)
      ∙ ap (λ us. Some (Going to fs (node_of row from to us ∷ ps) (max far f))) (turned-onto ts)))

  -- what a repetition gives, and where it must not fail
  abbrev unless : Bool → ℕ → Option Outcome → Option Outcome
  unless true at o = o
  unless false at o = optional at o

  optional_twice : (at : ℕ) (o : Option Outcome) → optional at (optional at o) ≡ optional at o
  optional_twice at None = refl
  optional_twice at (Some (Fails f)) = refl
  optional_twice at (Some (Gives ts n f)) = refl

  unless_again : (must : Bool) (at : ℕ) (ts : Trees) (f : ℕ) (same : ℕ → Option Outcome) (next : ℕ) → after ts f (again same at next) ≡ unless must at (after ts f (again same at next))
  unless_again true at ts f same next = refl
  unless_again false at ts f same next = again_gives (nat_eq next at) (same next)
    where
      again_gives : (b : Bool) (o : Option Outcome) → after ts f (cond b (Some (Gives none next 0)) (optional next o)) ≡ optional at (after ts f (cond b (Some (Gives none next 0)) (optional next o)))
      again_gives true o = refl
      again_gives false None = refl
      again_gives false (Some (Fails g)) = refl
      again_gives false (Some (Gives us n g)) = refl

  -- a repetition goes on from the next token as it says there
  abbrev Repeats : (b first end : ℕ) → (ℕ → Option Outcome) → Type 0
  Repeats b first end same = (next : ℕ) (fs : List Pending) (ps : List Tree) (far : ℕ) → Does (length fs) b (Going next (Parts first end ∷ Turns first end next ps false ∷ fs) ps far) fs ps far (optional next (same next))

  again_does : (b first end : ℕ) (same : ℕ → Option Outcome) → Repeats b first end same → (must : Bool) (at next : ℕ) (fs : List Pending) (ps qs : List Tree) (m : ℕ)
      → Does (length fs) (b + 1) (Going next (Turns first end at ps must ∷ fs) qs m) fs qs m (again same at next)
  again_does b first end same h must at next fs ps qs m = by_test (nat_eq next at) refl
    where
      by_test : (t : Bool) → nat_eq next at ≡ t → Does (length fs) (b + 1) (Going next (Turns first end at ps must ∷ fs) qs m) fs qs m (cond t (Some (Gives none next 0)) (optional next (same next)))
      by_test true e =
          ends_here (length fs) (b + 1) next fs qs m _ (goes_on 1 0 (b + 1) (length fs) _ _ _ (omega arith)
          (turns (length fs) _ _ (omega arith) (ap (λ t. Some (cond t (Going next fs qs m) (Going next (Parts first end ∷ Turns first end next qs false ∷ fs) qs m))) e)) (stays (length fs) _))
      by_test false e =
          goes_does (length fs) 1 b (b + 1) _ (Going next (Parts first end ∷ Turns first end next qs false ∷ fs) qs m) fs qs m (optional next (same next)) (omega arith)
          (turns (length fs) _ _ (omega arith) (ap (λ t. Some (cond t (Going next fs qs m) (Going next (Parts first end ∷ Turns first end next qs false ∷ fs) qs m))) e))
          (h next fs qs m)

  turn_does : (a b first end : ℕ) (same : ℕ → Option Outcome) → Repeats b first end same → (must : Bool) (at : ℕ) (c : State) (fs : List Pending) (ps : List Tree) (far : ℕ) (o : Option Outcome)
      → Does (length fs) a c (Turns first end at ps must ∷ fs) ps far o → Does (length fs) (a + (b + 1)) c fs ps far (unless must at (and_then o (again same at)))
  turn_does a b first end same h true at c fs ps far None d = tt
  turn_does a b first end same h false at c fs ps far None d = tt
  turn_does a b first end same h true at c fs ps far (Some (Fails f)) d = goes_on a 1 (a + (b + 1)) (length fs) _ _ _ (omega arith) d (turns (length fs) _ _ (omega arith) refl)
  turn_does a b first end same h false at c fs ps far (Some (Fails f)) d =
      wider (length fs) (a + 1) (a + (b + 1)) c fs ps far (Some (Gives none at f)) (omega arith) (back_to a c (Turns first end at ps false) at fs ps far f d refl)
  turn_does a b first end same h must at c fs ps far (Some (Gives ts next f)) d =
      subst (λ o. Does (length fs) (a + (b + 1)) c fs ps far o) (unless_again must at ts f same next)
      (after_does (length fs) (a + (b + 1)) c fs ps far ts f (again same at next)
      (goes_does (length fs) a (b + 1) (a + (b + 1)) _ _ fs _ _ (again same at next) (omega arith) d (again_does b first end same h must at next fs ps (onto ts ps) (max far f))))

  -- how many turns a row takes at the most, n levels of rows down
  abbrev pub rule_cost : (ℕ → ℕ) → ℕ → Option Rule → ℕ
  rule_cost cost row None = 1
  rule_cost cost row (Some rule) = 6 + parts_cost cost rule.first rule.count + cost rule.first + cost row

  abbrev pub cost : ℕ → ℕ → ℕ
  cost zero row = 0
  cost (suc n) row = rule_cost (cost n) row (slice_get rows row)

  abbrev IsRepeated : Form → Type 0
  IsRepeated (Term kind) = ⊥
  IsRepeated Link = ⊥
  IsRepeated Named = ⊥
  IsRepeated Seq = ⊥
  IsRepeated Choice = ⊥
  IsRepeated Star = Unit {0}
  IsRepeated Plus = Unit {0}
  IsRepeated Opt = ⊥
  IsRepeated Not = ⊥

  abbrev AllRepeat : Meaning → (ℕ → ℕ) → Type 0
  AllRepeat m c = (row first count : ℕ) (form : Form) → slice_get rows row ≡ Some (record { form = form; first = first; count = count }) → IsRepeated form → Repeats (c row) first (first + count) (m row)

  terminal_does : (kind at n : ℕ) (c : State) (fs : List Pending) (ps : List Tree) (far : ℕ) (o : Option lexed.Token) → 1 ≤ n → Goes 1 (length fs) c (called_terminal kind at o fs ps far) → Does (length fs) n c fs ps far (Some (terminal kind at o))
  terminal_does kind at n c fs ps far None le g = goes_on 1 0 n (length fs) _ _ _ (omega arith) g (stays (length fs) _)
  terminal_does kind at n c fs ps far (Some k) le g = by_test (is_terminal k kind) g
    where
      by_test : (t : Bool) → Goes 1 (length fs) c (cond t (Going (at + 1) fs (Token at ∷ ps) far) (Failing fs (max far at))) → Does (length fs) n c fs ps far (Some (cond t (Gives (only (Token at)) (at + 1) 0) (Fails at)))
      by_test true g = goes_to n (length fs) _ _ _ (ap (λ m. Going (at + 1) fs (Token at ∷ ps) m) (max_none far)) (goes_on 1 0 n (length fs) _ _ _ (omega arith) g (stays (length fs) _))
      by_test false g = goes_on 1 0 n (length fs) _ _ _ (omega arith) g (stays (length fs) _)

  module _ (m : Meaning) (c : ℕ → ℕ) (follows : Follows m c) (repeats : AllRepeat m c) where
    -- a turn of a repetition that has begun
    repetition_does : (row first count : ℕ) (form : Form) → slice_get rows row ≡ Some (record { form = form; first = first; count = count }) → IsRepeated form
        → (must : Bool) (at : ℕ) (fs : List Pending) (ps : List Tree) (far : ℕ)
        → Does (length fs) (parts_cost c first count + (c row + 1)) (Going at (Parts first (first + count) ∷ Turns first (first + count) at ps must ∷ fs) ps far) fs ps far (unless must at (and_then (in_turn m first count at) (again (m row) at)))
    repetition_does row first count form e is must at fs ps far =
        let top = Turns first (first + count) at ps must in
        turn_does (parts_cost c first count) (c row) first (first + count) (m row) (repeats row first count form e is) must at _ fs ps far (in_turn m first count at)
        (under_top top (parts_cost c first count) _ fs ps far (in_turn m first count at) (parts_do m c follows count first (first + count) refl at (top ∷ fs) ps far))
      where
        under_top : (top : Pending) (b : ℕ) (d : State) (fs : List Pending) (ps : List Tree) (far : ℕ) (o : Option Outcome) → Does (length (top ∷ fs)) b d (top ∷ fs) ps far o → Does (length fs) b d (top ∷ fs) ps far o
        under_top top b d fs ps far o h = does_lower (length (top ∷ fs)) (length fs) b d (top ∷ fs) ps far o (omega arith) h

    -- the parts under a frame
    parts_under : (count first : ℕ) (at : ℕ) (top : Pending) (fs : List Pending) (ps : List Tree) (far : ℕ) (d : State) → Goes 1 (length fs) d (Going at (Parts first (first + count) ∷ top ∷ fs) ps far)
        → Does (length fs) (1 + parts_cost c first count) d (top ∷ fs) ps far (in_turn m first count at)
    parts_under count first at top fs ps far d g =
        goes_does (length fs) 1 (parts_cost c first count) (1 + parts_cost c first count) _ _ (top ∷ fs) ps far (in_turn m first count at) (omega arith) g
        (does_lower (length (top ∷ fs)) (length fs) (parts_cost c first count) _ (top ∷ fs) ps far (in_turn m first count at) (omega arith) (parts_do m c follows count first (first + count) refl at (top ∷ fs) ps far))

    form_does : (row at first count : ℕ) (form : Form) → slice_get rows row ≡ Some (record { form = form; first = first; count = count }) → (fs : List Pending) (ps : List Tree) (far : ℕ)
        → Goes 1 (length fs) (Calling row at fs ps far) (called_form tokens row at form first count fs ps far)
        → Does (length fs) (6 + parts_cost c first count + c first + c row) (Calling row at fs ps far) fs ps far (of_form tokens m row form first count at)
    form_does row at first count (Term kind) e fs ps far g = terminal_does kind at _ _ fs ps far (slice_get tokens at) (omega arith) g
    form_does row at first count Link e fs ps far g = goes_does (length fs) 1 (c first) _ _ _ fs ps far (m first at) (omega arith) g (follows first at fs ps far)
    form_does row at first count Named e fs ps far g =
        let done = named_does (1 + parts_cost c first count) row at _ fs ps far (in_turn m first count at) (parts_under count first at (Naming row at ps far) fs [] 0 _ g) in
        wider (length fs) (1 + parts_cost c first count + 1) _ _ fs ps far (named row at (in_turn m first count at)) (omega arith) done
    form_does row at first count Seq e fs ps far g =
        goes_does (length fs) 1 (parts_cost c first count) _ _ _ fs ps far (in_turn m first count at) (omega arith) g (parts_do m c follows count first (first + count) refl at fs ps far)
    form_does row at first count Choice e fs ps far g =
        goes_does (length fs) 1 (parts_cost c first count) _ _ _ fs ps far (first_of_rows m first count at) (omega arith) g (choices_do m c follows count first (first + count) refl at fs ps far)
    form_does row at first count Star e fs ps far g =
        goes_does (length fs) 1 (parts_cost c first count + (c row + 1)) _ _ _ fs ps far (optional at (and_then (in_turn m first count at) (again (m row) at))) (omega arith) g (repetition_does row first count Star e tt false at fs ps far)
    form_does row at first count Plus e fs ps far g =
        goes_does (length fs) 1 (parts_cost c first count + (c row + 1)) _ _ _ fs ps far (and_then (in_turn m first count at) (again (m row) at)) (omega arith) g (repetition_does row first count Plus e tt true at fs ps far)
    form_does row at first count Opt e fs ps far g =
        let done = optional_does (1 + parts_cost c first count) at _ fs ps far (in_turn m first count at) (parts_under count first at (Optional at ps) fs ps far _ g) in
        wider (length fs) (1 + parts_cost c first count + 1) _ _ fs ps far (optional at (in_turn m first count at)) (omega arith) done
    form_does row at first count Not e fs ps far g =
        let done = negated_does (1 + parts_cost c first count) at _ fs ps far (in_turn m first count at) (parts_under count first at (Negated at ps) fs ps far _ g) in
        wider (length fs) (1 + parts_cost c first count + 1) _ _ fs ps far (negated at (in_turn m first count at)) (omega arith) done

    row_does : (row at : ℕ) (fs : List Pending) (ps : List Tree) (far : ℕ) (o : Option Rule) → slice_get rows row ≡ o
        → Does (length fs) (rule_cost c row o) (Calling row at fs ps far) fs ps far (of_rule tokens m row o at)
    row_does row at fs ps far None e =
        goes_to 1 (length fs) _ _ _ (ap (λ m. Failing fs m) (max_none far)) (turns (length fs) (Calling row at fs ps far) (Failing fs far) (omega arith) (ap (λ o. Some (called tokens row at o fs ps far)) e))
    row_does row at fs ps far (Some rule) e =
        form_does row at rule.first rule.count rule.form e fs ps far (turns (length fs) _ _ (omega arith) (ap (λ o. Some (called tokens row at o fs ps far)) e))

    row_repeats : (row first count : ℕ) (form : Form) → slice_get rows row ≡ Some (record { form = form; first = first; count = count }) → IsRepeated form
        → Repeats (6 + parts_cost c first count + c first + c row) first (first + count) (λ at. of_form tokens m row form first count at)
    row_repeats row first count Star e is next fs ps far =
        let again_at = and_then (in_turn m first count next) (again (m row) next) in
        let begun = Going next (Parts first (first + count) ∷ Turns first (first + count) next ps false ∷ fs) ps far in
        subst (λ o. Does (length fs) (6 + parts_cost c first count + c first + c row) begun fs ps far o) (sym (optional_twice next again_at))
        (wider (length fs) (parts_cost c first count + (c row + 1)) _ _ fs ps far (optional next again_at) (omega arith) (repetition_does row first count Star e is false next fs ps far))
    row_repeats row first count Plus e is next fs ps far =
        wider (length fs) (parts_cost c first count + (c row + 1)) _ _ fs ps far (optional next (and_then (in_turn m first count next) (again (m row) next))) (omega arith) (repetition_does row first count Plus e is false next fs ps far)
    row_repeats row first count (Term kind) e is next fs ps far = absurd is
    row_repeats row first count Link e is next fs ps far = absurd is
    row_repeats row first count Named e is next fs ps far = absurd is
    row_repeats row first count Seq e is next fs ps far = absurd is
    row_repeats row first count Choice e is next fs ps far = absurd is
    row_repeats row first count Opt e is next fs ps far = absurd is
    row_repeats row first count Not e is next fs ps far = absurd is

  both : (n : ℕ) → Follows (phr tokens rows n) (cost n) × AllRepeat (phr tokens rows n) (cost n)
  both zero = ((λ row at fs ps far. tt), (λ row first count form e is next fs ps far. tt))
  both (suc n) =
      let b = both n in (
        (λ row at fs ps far. row_does (phr tokens rows n) (cost n) b.0 b.1 row at fs ps far (slice_get rows row) refl),
        (λ row first count form e is next fs ps far.
            subst (λ o. Does (length fs) (rule_cost (cost n) row o) (Going next (Parts first (first + count) ∷ Turns first (first + count) next ps false ∷ fs) ps far) fs ps far (optional next (of_rule tokens (phr tokens rows n) row o next)))
            (sym e) (row_repeats (phr tokens rows n) (cost n) b.0 b.1 row first count form e is next fs ps far)),
      )

  -- the machine does what n levels of rows tell
  pub follows : (n : ℕ) → Follows (phr tokens rows n) (cost n)
  follows n = (both n).0
