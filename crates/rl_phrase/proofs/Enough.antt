-- Without left recursion enough levels tell what each row gives.
use Rattle.std.proofs.Common.{◌≡◌, ℕ, zero, suc, ◌+◌, ◌<◌, ◌≤◌, max, nat_eq, Bool, true, false, cond, ◌⊎◌, List, length, Option, Some, None, refl, sym, ap, ◌∙◌, subst, ⊎_elim, inl, inr, arith}
use Rattle.std.specs.Prelude.{slice_get}
use Rattle.std.proofs.lemmas.Option.{slice_get_within}
use Rattle.std.proofs.lemmas.Bool.Decides.{eqb_tells}
use Rattle.rl_tokens.specs.Token as lexed
use Rattle.rl_phrase.specs.Terminals.{Tokens, is_terminal}
use Rattle.rl_phrase.specs.declared.table.Rule.{Rule}
use Rattle.rl_phrase.specs.declared.table.Form.{Form}
use Rattle.rl_phrase.specs.declared.table.Form.TheVariants.{Term, Link, Named, Seq, Choice, Star, Plus, Opt, Not}
use Rattle.rl_phrase.specs.Tree.{Trees, Token, none, ◌then◌, only}
use Rattle.rl_phrase.specs.Phr.{Outcome, Fails, Gives, after, and_then, or_else, in_turn, first_of_rows, optional, negated, again, node_of, named, terminal, of_form, of_rule, phr, levels}
use Rattle.rl_phrase.specs.LeftRecursion.{CanBeEmpty, itself, link, choice, parts, Begins, BeginsForm, HasNoLeftRecursion}
use Rattle.rl_phrase.proofs.Walks.{IsShort, all_short, short_next}

module _ (tokens : Tokens) (rules : List Rule) (bound : ℕ) (all : length tokens ≤ bound) where
  -- it goes on to a token from k on, and to k itself only under E
  abbrev Goes_on : ℕ → Type 0 → Outcome → Type 0
  Goes_on k E (Fails far) = Unit {0}
  Goes_on k E (Gives ts next far) = (k ≤ next) × (next ≤ bound) × (next ≡ k → E)

  -- from b levels on it is known what F tells
  record Settles (b : ℕ) (F : ℕ → Option Outcome) (k : ℕ) (E : Type 0) : Type 0 where
    outcome : Outcome
    tells : (n : ℕ) → b ≤ n → F n ≡ Some outcome
    fine : Goes_on k E outcome

  settles : (b : ℕ) (F : ℕ → Option Outcome) (k : ℕ) (E : Type 0) (o : Outcome) → ((n : ℕ) → b ≤ n → F n ≡ Some o) → Goes_on k E o → Settles b F k E
  settles b F k E o t f = record { outcome = o; tells = t; fine = f }

  fine_under : (k : ℕ) (E E' : Type 0) (o : Outcome) → (E → E') → Goes_on k E o → Goes_on k E' o
  fine_under k E E' (Fails f) h p = tt
  fine_under k E E' (Gives ts next f) h p = (p.0, p.1, λ e. h (p.2 e))

  under : (b b' : ℕ) (F F' : ℕ → Option Outcome) (k : ℕ) (E E' : Type 0) → b ≤ b' → ((n : ℕ) → b' ≤ n → F' n ≡ F n) → (E → E') → Settles b F k E → Settles b' F' k E'
  under b b' F F' k E E' le same h s = settles b' F' k E' s.outcome (λ n l. same n l ∙ s.tells n (omega arith)) (fine_under k E E' s.outcome h s.fine)

  -- from a later token on
  fine_later : (k k' : ℕ) (E E' : Type 0) (o : Outcome) → k < k' → Goes_on k' E o → Goes_on k E' o
  fine_later k k' E E' (Fails f) lt p = tt
  fine_later k k' E E' (Gives ts next f) lt p = let le = p.0 in (omega arith, p.1, λ e. absurd (omega arith))

  after_settles : (b : ℕ) (ts : Trees) (f : ℕ) (F G : ℕ → Option Outcome) (k : ℕ) (E : Type 0) (o : Outcome)
      → ((n : ℕ) → b ≤ n → F n ≡ after ts f (G n)) → ((n : ℕ) → b ≤ n → G n ≡ Some o) → Goes_on k E o → Settles b F k E
  after_settles b ts f F G k E (Fails g) same e p = settles b F k E (Fails (max f g)) (λ n le. same n le ∙ ap (after ts f) (e n le)) tt
  after_settles b ts f F G k E (Gives us next g) same e p = settles b F k E (Gives (ts then us) next (max f g)) (λ n le. same n le ∙ ap (after ts f) (e n le)) p

  -- a first outcome, and what goes on from it
  then_settles : (b : ℕ) (F : ℕ → Option Outcome) (G : ℕ → ℕ → Option Outcome) (k k' : ℕ) (E E' : Type 0) (o : Outcome)
      → ((n : ℕ) → b ≤ n → F n ≡ Some o) → Goes_on k' E' o
      → ((next : ℕ) → k' ≤ next → next ≤ bound → (next ≡ k' → E') → Settles b (λ n. G n next) k E)
      → Settles b (λ n. and_then (F n) (G n)) k E
  then_settles b F G k k' E E' (Fails f) e p go = settles b _ k E (Fails f) (λ n le. ap (λ x. and_then x (G n)) (e n le)) tt
  then_settles b F G k k' E E' (Gives ts next f) e p go =
      let s = go next p.0 p.1 p.2 in
      after_settles b ts f _ (λ n. G n next) k E s.outcome (λ n le. ap (λ x. and_then x (G n)) (e n le)) s.tells s.fine

  else_settles : (b : ℕ) (F G : ℕ → Option Outcome) (k : ℕ) (E E' : Type 0) (o : Outcome)
      → ((n : ℕ) → b ≤ n → F n ≡ Some o) → Goes_on k E' o → (E' → E) → Settles b G k E → Settles b (λ n. or_else (F n) (G n)) k E
  else_settles b F G k E E' (Fails f) e p h s = after_settles b none f _ G k E s.outcome (λ n le. ap (λ x. or_else x (G n)) (e n le)) s.tells s.fine
  else_settles b F G k E E' (Gives ts next f) e p h s = settles b _ k E (Gives ts next f) (λ n le. ap (λ x. or_else x (G n)) (e n le)) (fine_under k E' E (Gives ts next f) h p)

  optional_settles : (b k token : ℕ) (F : ℕ → Option Outcome) (E E' : Type 0) (o : Outcome) → k ≤ token → token ≤ bound
      → ((n : ℕ) → b ≤ n → F n ≡ Some o) → Goes_on token E' o → (token ≡ k → E) → Settles b (λ n. optional token (F n)) k E
  optional_settles b k token F E E' (Fails f) l lt e p h = settles b _ k E (Gives none token f) (λ n le. ap (optional token) (e n le)) (l, lt, h)
  optional_settles b k token F E E' (Gives ts next f) l lt e p h =
      let le' = p.0 in
      settles b _ k E (Gives ts next f) (λ n le. ap (optional token) (e n le)) (omega arith, p.1, λ q. h (omega arith))

  negated_settles : (b k : ℕ) (F : ℕ → Option Outcome) (E E' : Type 0) (o : Outcome) → k ≤ bound
      → ((n : ℕ) → b ≤ n → F n ≡ Some o) → Goes_on k E' o → E → Settles b (λ n. negated k (F n)) k E
  negated_settles b k F E E' (Fails f) lt e p h = settles b _ k E (Gives none k f) (λ n le. ap (negated k) (e n le)) (omega arith, lt, λ q. h)
  negated_settles b k F E E' (Gives ts next f) lt e p h = settles b _ k E (Fails f) (λ n le. ap (negated k) (e n le)) tt

  named_settles : (b k row : ℕ) (F : ℕ → Option Outcome) (E : Type 0) (o : Outcome)
      → ((n : ℕ) → b ≤ n → F n ≡ Some o) → Goes_on k E o → Settles b (λ n. named row k (F n)) k E
  named_settles b k row F E (Fails f) e p = settles b _ k E (Fails f) (λ n le. ap (named row k) (e n le)) tt
  named_settles b k row F E (Gives ts next f) e p = settles b _ k E (Gives (only (node_of row k next ts)) next f) (λ n le. ap (named row k) (e n le)) p

  terminal_settles : (b k kind : ℕ) (E : Type 0) (o : Option lexed.Token) → slice_get tokens k ≡ o → Settles b (λ n. Some (terminal kind k o)) k E
  terminal_settles b k kind E None e = settles b _ k E (Fails k) (λ n le. refl) tt
  terminal_settles b k kind E (Some t) e = by_test (is_terminal t kind)
    where
      by_test : (y : Bool) → Settles b (λ n. Some (cond y (Gives (only (Token k)) (k + 1) 0) (Fails k))) k E
      by_test true = let w = slice_get_within tokens k t e in settles b _ k E (Gives (only (Token k)) (k + 1) 0) (λ n le. refl) (omega arith, omega arith, λ q. absurd (omega arith))
      by_test false = settles b _ k E (Fails k) (λ n le. refl) tt

  abbrev Known : ℕ → ℕ → ℕ → Type 0
  Known b row k = Settles b (λ n. phr tokens rules n row k) k (CanBeEmpty rules row)

  abbrev FrontEmpty : ℕ → ℕ → Type 0
  FrontEmpty first i = (j : ℕ) → j < i → CanBeEmpty rules (first + j)

  module _ (b k : ℕ) (within : k ≤ bound) (later : (row k' : ℕ) → k < k' → k' ≤ bound → Known b row k') where
    front_more : (first i : ℕ) → FrontEmpty first i → CanBeEmpty rules (first + i) → FrontEmpty first (i + 1)
    front_more first i h here j lt = ⊎_elim (λ (l : j < i). h j l) (λ (e : j ≡ i). subst (λ x. CanBeEmpty rules (first + x)) (sym e) here) (grind arith)

    parts_settle : (first count : ℕ) → ((i : ℕ) → i < count → FrontEmpty first i → Known b (first + i) k)
        → (left i at k' : ℕ) → i + left ≡ count → at ≡ first + i → k' ≤ bound → ((k' ≡ k) × FrontEmpty first i) ⊎ (k < k')
        → Settles b (λ n. in_turn (phr tokens rules n) at left k') k (FrontEmpty first count)
    parts_settle first count child zero i at k' e ea w (inl (ek, h)) =
        settles b _ k _ (Gives none k' 0) (λ n le. refl) (omega arith, w, λ q j lt. h j (omega arith))
    parts_settle first count child zero i at k' e ea w (inr lt) =
        settles b _ k _ (Gives none k' 0) (λ n le. refl) (omega arith, w, λ q. absurd (omega arith))
    parts_settle first count child (suc left) i at k' e ea w (inl (ek, h)) =
        let c : Known b at k' = subst (λ x. Known b x k') (sym ea) (subst (λ x. Known b (first + i) x) (sym ek) (child i (omega arith) h)) in
        then_settles b (λ n. phr tokens rules n at k') (λ n. in_turn (phr tokens rules n) (at + 1) left) k k' (FrontEmpty first count) (CanBeEmpty rules at) c.outcome c.tells c.fine
        (λ next l lt here. parts_settle first count child left (i + 1) (at + 1) next (omega arith) (omega arith) lt
        (⊎_elim
        (λ (q : next ≡ k). inl (q, front_more first i h (subst (λ x. CanBeEmpty rules x) ea (here (omega arith)))))
        (λ (q : k < next). inr q)
        (grind arith)))
    parts_settle first count child (suc left) i at k' e ea w (inr lt) =
        let c : Known b at k' = later at k' lt w in
        then_settles b (λ n. phr tokens rules n at k') (λ n. in_turn (phr tokens rules n) (at + 1) left) k k' (FrontEmpty first count) (CanBeEmpty rules at) c.outcome c.tells c.fine
        (λ next l lt' here. parts_settle first count child left (i + 1) (at + 1) next (omega arith) (omega arith) lt' (inr (omega arith)))

    all_parts : (first count : ℕ) → ((i : ℕ) → i < count → FrontEmpty first i → Known b (first + i) k) → Settles b (λ n. in_turn (phr tokens rules n) first count k) k (FrontEmpty first count)
    all_parts first count child = parts_settle first count child count 0 first k (omega arith) (omega arith) within (inl (refl, λ j lt. absurd (omega arith)))

    abbrev OneEmpty : ℕ → ℕ → Type 0
    OneEmpty first count = (i : ℕ) × (i < count) × CanBeEmpty rules (first + i)

    choice_settles : (first count : ℕ) → ((i : ℕ) → i < count → Known b (first + i) k)
        → (left i at : ℕ) → i + left ≡ count → at ≡ first + i → Settles b (λ n. first_of_rows (phr tokens rules n) at left k) k (OneEmpty first count)
    choice_settles first count child zero i at e ea = settles b _ k _ (Fails 0) (λ n le. refl) tt
    choice_settles first count child (suc left) i at e ea =
        let c : Known b at k = subst (λ x. Known b x k) (sym ea) (child i (omega arith)) in
        else_settles b (λ n. phr tokens rules n at k) (λ n. first_of_rows (phr tokens rules n) (at + 1) left k) k (OneEmpty first count) (CanBeEmpty rules at) c.outcome c.tells c.fine
        (λ h. (i, omega arith, subst (λ x. CanBeEmpty rules x) ea h))
        (choice_settles first count child left (i + 1) (at + 1) (omega arith) (omega arith))

    again_settles : (row next : ℕ) (E : Type 0) → k ≤ next → next ≤ bound → (next ≡ k → E) → Settles b (λ n. again (phr tokens rules n row) k next) k E
    again_settles row next E l w h = ⊎_elim
        (λ (q : (nat_eq next k ≡ true) × (next ≡ k)). settles b _ k E (Gives none next 0) (λ n le. ap (λ t. cond t (Some (Gives none next 0)) (optional next (phr tokens rules n row next))) q.0) (l, w, h))
        (λ (q : (nat_eq next k ≡ false) × (next ≡ k → ⊥)).
        let ne = q.1 in
        let lt : k < next = grind arith in
        let s = later row next lt w in
        under b b _ _ k E E (omega arith) (λ n le. ap (λ t. cond t (Some (Gives none next 0)) (optional next (phr tokens rules n row next))) q.0) (λ x. x)
        (optional_settles b k next (λ n. phr tokens rules n row next) E (CanBeEmpty rules row) s.outcome l w s.tells s.fine h))
        (eqb_tells next k)

    repeat_settles : (row first count : ℕ) → Settles b (λ n. in_turn (phr tokens rules n) first count k) k (FrontEmpty first count)
        → Settles b (λ n. and_then (in_turn (phr tokens rules n) first count k) (again (phr tokens rules n row) k)) k (FrontEmpty first count)
    repeat_settles row first count s =
        then_settles b (λ n. in_turn (phr tokens rules n) first count k) (λ n. again (phr tokens rules n row) k) k k (FrontEmpty first count) (FrontEmpty first count) s.outcome s.tells s.fine
        (λ next l w h. again_settles row next (FrontEmpty first count) l w h)

    form_settles : (row first count : ℕ) (form : Form) → slice_get rules row ≡ Some (record { form = form; first = first; count = count })
        → ((mid : ℕ) → BeginsForm rules form first count mid → Known b mid k)
        → Settles b (λ n. of_form tokens (phr tokens rules n) row form first count k) k (CanBeEmpty rules row)
    form_settles row first count (Term kind) e child = terminal_settles b k kind (CanBeEmpty rules row) (slice_get tokens k) refl
    form_settles row first count Link e child = under b b _ _ k _ _ (omega arith) (λ n le. refl) (λ h. link row first count e h) (child first refl)
    form_settles row first count Named e child =
        let s = all_parts first count (λ i lt h. child (first + i) (i, lt, refl, h)) in
        under b b _ _ k _ _ (omega arith) (λ n le. refl) (λ h. parts row first count Named e tt h) (named_settles b k row (λ n. in_turn (phr tokens rules n) first count k) _ s.outcome s.tells s.fine)
    form_settles row first count Seq e child =
        under b b _ _ k _ _ (omega arith) (λ n le. refl) (λ h. parts row first count Seq e tt h) (all_parts first count (λ i lt h. child (first + i) (i, lt, refl, h)))
    form_settles row first count Choice e child =
        under b b _ _ k _ _ (omega arith) (λ n le. refl) (λ h. choice row first count e h.0 h.1 h.2) (choice_settles first count (λ i lt. child (first + i) (i, lt, refl)) count 0 first (omega arith) (omega arith))
    form_settles row first count Star e child =
        let s = repeat_settles row first count (all_parts first count (λ i lt h. child (first + i) (i, lt, refl, h))) in
        optional_settles b k k _ (CanBeEmpty rules row) (FrontEmpty first count) s.outcome (omega arith) within s.tells s.fine (λ q. itself row first count Star e tt)
    form_settles row first count Plus e child =
        let s = repeat_settles row first count (all_parts first count (λ i lt h. child (first + i) (i, lt, refl, h))) in
        under b b _ _ k _ _ (omega arith) (λ n le. refl) (λ h. parts row first count Plus e tt h) s
    form_settles row first count Opt e child =
        let s = all_parts first count (λ i lt h. child (first + i) (i, lt, refl, h)) in
        optional_settles b k k _ (CanBeEmpty rules row) (FrontEmpty first count) s.outcome (omega arith) within s.tells s.fine (λ q. itself row first count Opt e tt)
    form_settles row first count Not e child =
        let s = all_parts first count (λ i lt h. child (first + i) (i, lt, refl, h)) in
        negated_settles b k _ (CanBeEmpty rules row) (FrontEmpty first count) s.outcome within s.tells s.fine (itself row first count Not e tt)

    rule_settles : (row : ℕ) (o : Option Rule) → slice_get rules row ≡ o → ((mid : ℕ) → Begins rules row mid → Known b mid k)
        → Settles b (λ n. of_rule tokens (phr tokens rules n) row o k) k (CanBeEmpty rules row)
    rule_settles row None e child = settles b _ k _ (Fails 0) (λ n le. refl) tt
    rule_settles row (Some rule) e child = form_settles row rule.first rule.count rule.form e (λ mid h. child mid (rule, e, h))

  one_more : (b row k : ℕ) → Settles b (λ n. of_rule tokens (phr tokens rules n) row (slice_get rules row) k) k (CanBeEmpty rules row) → Known (suc b) row k
  one_more b row k s = settles (suc b) _ k _ s.outcome tells s.fine
    where
      tells : (n : ℕ) → suc b ≤ n → phr tokens rules n row k ≡ Some s.outcome
      tells zero le = absurd (omega arith)
      tells (suc n) le = s.tells n (omega arith)

  module _ (none : HasNoLeftRecursion rules) where
    at_token : (b k : ℕ) → k ≤ bound → ((row k' : ℕ) → k < k' → k' ≤ bound → Known b row k') → (d row : ℕ) → IsShort rules none row d → Known (b + d) row k
    at_token b k within later zero row s = let lt = s row 0 refl in absurd (omega arith)
    at_token b k within later (suc d) row s =
        under (suc (b + d)) (b + suc d) _ _ k _ _ (omega arith) (λ n le. refl) (λ x. x)
        (one_more (b + d) row k
        (rule_settles (b + d) k within (λ row' k' lt w. under b (b + d) _ _ k' _ _ (omega arith) (λ n le. refl) (λ x. x) (later row' k' lt w))
        row (slice_get rules row) refl
        (λ mid h. at_token b k within later d mid (short_next rules none row mid d s h))))

    known : (left k : ℕ) → k ≤ bound → bound ≤ k + left → (row : ℕ) → Known (levels (length rules) left) row k
    known zero k w e row =
        under (0 + suc (length rules)) (suc (length rules)) _ _ k _ _ (omega arith) (λ n le. refl) (λ x. x)
        (at_token 0 k w (λ row' k' lt w'. absurd (omega arith)) (suc (length rules)) row (all_short rules none row))
    known (suc left) k w e row =
        at_token (levels (length rules) left) k w (λ row' k' lt w'. known left k' w' (omega arith) row') (suc (length rules)) row (all_short rules none row)

module _ (tokens : Tokens) (rules : List Rule) (none : HasNoLeftRecursion rules) where
  -- what a row gives at a token, which enough levels tell
  pub known_outcome : (row at : ℕ) → Outcome
  known_outcome row at = (known tokens rules (at + length tokens) (omega arith) none (length tokens) at (omega arith) (omega arith) row).outcome

  pub known_tells : (row at n : ℕ) → levels (length rules) (length tokens) ≤ n → phr tokens rules n row at ≡ Some (known_outcome row at)
  unfolding known_outcome
  known_tells row at = (known tokens rules (at + length tokens) (omega arith) none (length tokens) at (omega arith) (omega arith) row).tells
