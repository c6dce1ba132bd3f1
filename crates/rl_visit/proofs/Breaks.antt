-- Which nodes the `break` strategies ask.
use Rattle.std.proofs.Common.{◌≡◌, ℕ, zero, suc, ◌+◌, ◌<◌, ◌≤◌, Bool, true, false, ◌||◌, List, [], ◌∷◌, ◌++◌, length, refl, sym, ◌∙◌, subst, arith}
use Rattle.rl_syntax.specs.declared.operator.Strategy.TheVariants.{TopDownBreak, BottomUpBreak}
use Rattle.rl_types.specs.Declarations.{Declarations}
use Rattle.rl_value.specs.Kids.{kids as kids_of}
use Rattle.rl_value.specs.Plain.{Plain, plain_height}
use Rattle.rl_visit.specs.Laws.{IsServed, IsBelow, AsksNothingBelow, AsksNothingAbove}
use Rattle.rl_visit.specs.Walk.{Children, Answer, no, kept, changed, Position, Walked, ask, end, visit_type, too_large, Going, on_end, in_child, each_kid, top_down_break, bottom_up_break, walk}
use Rattle.rl_visit.proofs.Steps.{Finish, after_kids, node_after, node_after_kids, renewed-both}
use Rattle.rl_visit.proofs.Bounds.{down_break-same}

longer : (xs : Children) (v : Plain × Plain) → length (xs ++ v ∷ []) ≡ length xs + 1
longer [] v = refl
longer (x ∷ xs) v = omega (arith, longer xs v)

prefix-le : (xs ys : List Answer) → length xs ≤ length (xs ++ ys)
prefix-le [] ys = omega arith
prefix-le (x ∷ xs) ys = omega (arith, prefix-le xs ys)

or-true : (b : Bool) → (b || true) ≡ true
or-true true = refl
or-true false = refl

-- Where a walk asks.

abbrev NoAsk : Walked → Type 0
NoAsk (ask place u) = ⊥
NoAsk (end v s given) = Unit {0}
NoAsk visit_type = Unit {0}
NoAsk too_large = Unit {0}

-- only in children behind the one of this number
abbrev Behind : ℕ → Walked → Type 0
Behind n (ask [] u) = ⊥
Behind n (ask (j ∷ place) u) = n < j
Behind n (end v s given) = Unit {0}
Behind n visit_type = Unit {0}
Behind n too_large = Unit {0}

no_ask-behind : (n : ℕ) (x : Walked) → NoAsk x → Behind n x
no_ask-behind n (ask place u) h = absurd h
no_ask-behind n (end v s given) h = tt
no_ask-behind n visit_type h = tt
no_ask-behind n too_large h = tt

behind-step : (i n : ℕ) (x : Walked) (f : Going) → i < n → ((v : Plain) (s : Bool) (left : List Answer) → Behind i (f v s left)) → Behind i (on_end (in_child n x) f)
behind-step i n (ask place u) f l h = l
behind-step i n (end v s given) f l h = h v s given
behind-step i n visit_type f l h = tt
behind-step i n too_large f l h = tt

behind-kids : (w : Plain → List Answer → Walked) (go : Finish) (i : ℕ) → ((ks : Children) (s : Bool) (given : List Answer) → NoAsk (go ks s given))
    → (done : Children) (kids : List Plain) (s : Bool) (given : List Answer) → i < length done → Behind i (each_kid w done kids s given go)
behind-kids w go i h done [] s given l = no_ask-behind i (go done s given) (h done s given)
behind-kids w go i h done (kid ∷ kids) s given l =
    behind-step i (length done) (w kid given) (λ v r left. each_kid w (done ++ (kid, v) ∷ []) kids (s || r) left go) l
    (λ v r left. behind-kids w go i h (done ++ (kid, v) ∷ []) kids (s || r) left (omega (arith, longer done (kid, v))))

-- once something was served
behind-kids-served : (w : Plain → List Answer → Walked) (go : Finish) (i : ℕ) → ((ks : Children) (given : List Answer) → NoAsk (go ks true given))
    → (done : Children) (kids : List Plain) (given : List Answer) → i < length done → Behind i (each_kid w done kids true given go)
behind-kids-served w go i h done [] given l = no_ask-behind i (go done true given) (h done given)
behind-kids-served w go i h done (kid ∷ kids) given l =
    behind-step i (length done) (w kid given) (λ v r left. each_kid w (done ++ (kid, v) ∷ []) kids (true || r) left go) l
    (λ v r left. behind-kids-served w go i h (done ++ (kid, v) ∷ []) kids left (omega (arith, longer done (kid, v))))

-- With more answers a walk that ended ends alike, and leaves them.

abbrev Extends : List Answer → Walked → Walked → Type 0
Extends more (ask place u) y = Unit {0}
Extends more (end v s left) y = y ≡ end v s (left ++ more)
Extends more visit_type y = Unit {0}
Extends more too_large y = Unit {0}

extends-step : (more : List Answer) (n : ℕ) (x y : Walked) (f : Going) → Extends more x y → ((v : Plain) (s : Bool) (left : List Answer) → Extends more (f v s left) (f v s (left ++ more)))
    → Extends more (on_end (in_child n x) f) (on_end (in_child n y) f)
extends-step more n (ask place u) y f e h = tt
extends-step more n (end v s left) y f e h = subst (λ z. Extends more (f v s left) (on_end (in_child n z) f)) (sym e) (h v s left)
extends-step more n visit_type y f e h = tt
extends-step more n too_large y f e h = tt

abbrev WalkExtends : List Answer → (Plain → List Answer → Walked) → Type 0
WalkExtends more w = (v : Plain) (given : List Answer) → Extends more (w v given) (w v (given ++ more))

extends-kids : (w : Plain → List Answer → Walked) (more : List Answer) → WalkExtends more w
    → (go : Finish) → ((ks : Children) (s : Bool) (left : List Answer) → Extends more (go ks s left) (go ks s (left ++ more)))
    → (done : Children) (kids : List Plain) (s : Bool) (given : List Answer) → Extends more (each_kid w done kids s given go) (each_kid w done kids s (given ++ more) go)
extends-kids w more hw go hg done [] s given = hg done s given
extends-kids w more hw go hg done (kid ∷ kids) s given =
    extends-step more (length done) (w kid given) (w kid (given ++ more)) (λ v r left. each_kid w (done ++ (kid, v) ∷ []) kids (s || r) left go) (hw kid given)
    (λ v r left. extends-kids w more hw go hg (done ++ (kid, v) ∷ []) kids (s || r) left)

-- From above.

-- the second walk asks nothing below the node that the first asks
abbrev NotBelow : Walked → Walked → Type 0
NotBelow (ask p u) (ask q w) = ¬ IsBelow p q
NotBelow (ask p u) (end v s given) = Unit {0}
NotBelow (ask p u) visit_type = Unit {0}
NotBelow (ask p u) too_large = Unit {0}
NotBelow (end v s given) y = Unit {0}
NotBelow visit_type y = Unit {0}
NotBelow too_large y = Unit {0}

no_ask-not_below : (x y : Walked) → NoAsk x → NotBelow x y
no_ask-not_below (ask place u) y h = absurd h
no_ask-not_below (end v s given) y h = tt
no_ask-not_below visit_type y h = tt
no_ask-not_below too_large y h = tt

behind-not_below : (n : ℕ) (p : Position) (u : Plain) (x : Walked) → Behind n x → NotBelow (ask (n ∷ p) u) x
behind-not_below n p u (ask [] w) h = absurd h
behind-not_below n p u (ask (j ∷ q) w) h = λ b. omega (arith, h, b.0)
behind-not_below n p u (end v s given) h = tt
behind-not_below n p u visit_type h = tt
behind-not_below n p u too_large h = tt

not_below-step : (more : List Answer) (n : ℕ) (x y : Walked) (f : Going) → NotBelow x y → Extends more x y
    → ((v : Plain) (s : Bool) (left : List Answer) → NotBelow (f v s left) (f v s (left ++ more)))
    → ((v : Plain) (s : Bool) (left : List Answer) → Behind n (f v s left))
    → NotBelow (on_end (in_child n x) f) (on_end (in_child n y) f)
not_below-step more n (ask p u) (ask q w) f a e h k = λ b. a b.1
not_below-step more n (ask p u) (end v s left) f a e h k = behind-not_below n p u (f v s left) (k v s left)
not_below-step more n (ask p u) visit_type f a e h k = tt
not_below-step more n (ask p u) too_large f a e h k = tt
not_below-step more n (end v s left) y f a e h k = subst (λ z. NotBelow (f v s left) (on_end (in_child n z) f)) (sym e) (h v s left)
not_below-step more n visit_type y f a e h k = tt
not_below-step more n too_large y f a e h k = tt

not_below-kids : (w : Plain → List Answer → Walked) (more : List Answer) → ((kid : Plain) (given : List Answer) → NotBelow (w kid given) (w kid (given ++ more))) → WalkExtends more w
    → (go : Finish) → ((ks : Children) (s : Bool) (given : List Answer) → NoAsk (go ks s given))
    → (done : Children) (kids : List Plain) (s : Bool) (given : List Answer) → NotBelow (each_kid w done kids s given go) (each_kid w done kids s (given ++ more) go)
not_below-kids w more hw he go hg done [] s given = no_ask-not_below (go done s given) (go done s (given ++ more)) (hg done s given)
not_below-kids w more hw he go hg done (kid ∷ kids) s given =
    not_below-step more (length done) (w kid given) (w kid (given ++ more)) (λ v r left. each_kid w (done ++ (kid, v) ∷ []) kids (s || r) left go) (hw kid given) (he kid given)
    (λ v r left. not_below-kids w more hw he go hg (done ++ (kid, v) ∷ []) kids (s || r) left)
    (λ v r left. behind-kids w go (length done) hg (done ++ (kid, v) ∷ []) kids (s || r) left (omega (arith, longer done (kid, v))))

after_kids-no_ask : (d : Declarations) (v : Plain) (ks : Children) (s : Bool) (given : List Answer) → NoAsk (after_kids d v ks s given)
after_kids-no_ask d v ks s given = renewed-both (λ x y. NoAsk x) tt tt d v ks s given given end (λ u. tt)

after_kids-extends : (more : List Answer) (d : Declarations) (v : Plain) (ks : Children) (s : Bool) (given : List Answer) → Extends more (after_kids d v ks s given) (after_kids d v ks s (given ++ more))
after_kids-extends more d v ks s given = renewed-both (Extends more) tt tt d v ks s given (given ++ more) end (λ u. refl)

down-extends : (more : List Answer) (k : ℕ) (d : Declarations) → WalkExtends more (top_down_break k d)
down-extends more zero d v given = tt
down-extends more (suc k) d v [] = tt
down-extends more (suc k) d v (no ∷ given) = extends-kids (top_down_break k d) more (down-extends more k d) (after_kids d v) (after_kids-extends more d v) [] (kids_of v) false given
down-extends more (suc k) d v (kept ∷ given) = refl
down-extends more (suc k) d v (changed u ∷ given) = refl

down-not_below : (a : Answer) → IsServed a → (after : List Answer) (k : ℕ) (d : Declarations) (v : Plain) (before : List Answer) → NotBelow (top_down_break k d v before) (top_down_break k d v (before ++ a ∷ after))
down-not_below a h after zero d v before = λ b. b
down-not_below no h after (suc k) d v [] = absurd h
down-not_below kept h after (suc k) d v [] = tt
down-not_below (changed u) h after (suc k) d v [] = tt
down-not_below a h after (suc k) d v (no ∷ before) =
    not_below-kids (top_down_break k d) (a ∷ after) (down-not_below a h after k d) (down-extends (a ∷ after) k d) (after_kids d v) (after_kids-no_ask d v) [] (kids_of v) false before
down-not_below a h after (suc k) d v (kept ∷ before) = tt
down-not_below a h after (suc k) d v (changed u ∷ before) = tt

pub nothing-below : (d : Declarations) → AsksNothingBelow d TopDownBreak
unfolding walk
nothing-below d v before after a p q hp h hq =
    let n : ℕ = suc (length (before ++ a ∷ after)) in
    let e : top_down_break n d v before ≡ ask p hp.0 = down_break-same n (suc (length before)) d v before (omega (arith, prefix-le before (a ∷ after))) (omega arith) ∙ hp.1 in
    let r : NotBelow (ask p hp.0) (top_down_break n d v (before ++ a ∷ after)) = subst (λ x. NotBelow x (top_down_break n d v (before ++ a ∷ after))) e (down-not_below a h after n d v before) in
    subst (λ y. NotBelow (ask p hp.0) y) hq.1 r

-- From below.

-- the second walk asks nothing above the node that the first asks
abbrev NotAbove : Walked → Walked → Type 0
NotAbove (ask p u) (ask q w) = ¬ IsBelow q p
NotAbove (ask p u) (end v s given) = Unit {0}
NotAbove (ask p u) visit_type = Unit {0}
NotAbove (ask p u) too_large = Unit {0}
NotAbove (end v s given) y = Unit {0}
NotAbove visit_type y = Unit {0}
NotAbove too_large y = Unit {0}

-- where the first asks and the second ends, something was served
abbrev Serves : Walked → Walked → Type 0
Serves (ask p u) (ask q w) = Unit {0}
Serves (ask p u) (end v s given) = s ≡ true
Serves (ask p u) visit_type = Unit {0}
Serves (ask p u) too_large = Unit {0}
Serves (end v s given) y = Unit {0}
Serves visit_type y = Unit {0}
Serves too_large y = Unit {0}

-- where it ends, something was served
abbrev EndsServed : Walked → Type 0
EndsServed (ask place u) = Unit {0}
EndsServed (end v s given) = s ≡ true
EndsServed visit_type = Unit {0}
EndsServed too_large = Unit {0}

ends_served-step : (n : ℕ) (x : Walked) (f : Going) → ((v : Plain) (s : Bool) (left : List Answer) → EndsServed (f v s left)) → EndsServed (on_end (in_child n x) f)
ends_served-step n (ask place u) f h = tt
ends_served-step n (end v s left) f h = h v s left
ends_served-step n visit_type f h = tt
ends_served-step n too_large f h = tt

ends_served-kids : (w : Plain → List Answer → Walked) (go : Finish) → ((ks : Children) (given : List Answer) → EndsServed (go ks true given))
    → (done : Children) (kids : List Plain) (given : List Answer) → EndsServed (each_kid w done kids true given go)
ends_served-kids w go h done [] given = h done given
ends_served-kids w go h done (kid ∷ kids) given =
    ends_served-step (length done) (w kid given) (λ v r left. each_kid w (done ++ (kid, v) ∷ []) kids (true || r) left go) (λ v r left. ends_served-kids w go h (done ++ (kid, v) ∷ []) kids left)

ends_served-serves : (p : Position) (u : Plain) (x : Walked) → EndsServed x → Serves (ask p u) x
ends_served-serves p u (ask q w) h = tt
ends_served-serves p u (end v s given) h = h
ends_served-serves p u visit_type h = tt
ends_served-serves p u too_large h = tt

serves-step : (more : List Answer) (n : ℕ) (x y : Walked) (f : Going) → Serves x y → Extends more x y
    → ((v : Plain) (s : Bool) (left : List Answer) → Serves (f v s left) (f v s (left ++ more)))
    → ((v : Plain) (left : List Answer) → EndsServed (f v true left))
    → Serves (on_end (in_child n x) f) (on_end (in_child n y) f)
serves-step more n (ask p u) (ask q w) f a e h k = tt
serves-step more n (ask p u) (end v s left) f a e h k = subst (λ r. Serves (ask (n ∷ p) u) (f v r left)) (sym a) (ends_served-serves (n ∷ p) u (f v true left) (k v left))
serves-step more n (ask p u) visit_type f a e h k = tt
serves-step more n (ask p u) too_large f a e h k = tt
serves-step more n (end v s left) y f a e h k = subst (λ z. Serves (f v s left) (on_end (in_child n z) f)) (sym e) (h v s left)
serves-step more n visit_type y f a e h k = tt
serves-step more n too_large y f a e h k = tt

serves-kids : (w : Plain → List Answer → Walked) (more : List Answer) → ((kid : Plain) (given : List Answer) → Serves (w kid given) (w kid (given ++ more))) → WalkExtends more w
    → (go : Finish) → ((ks : Children) (s : Bool) (given : List Answer) → Serves (go ks s given) (go ks s (given ++ more))) → ((ks : Children) (given : List Answer) → EndsServed (go ks true given))
    → (done : Children) (kids : List Plain) (s : Bool) (given : List Answer) → Serves (each_kid w done kids s given go) (each_kid w done kids s (given ++ more) go)
serves-kids w more hw he go hg ht done [] s given = hg done s given
serves-kids w more hw he go hg ht done (kid ∷ kids) s given =
    serves-step more (length done) (w kid given) (w kid (given ++ more)) (λ v r left. each_kid w (done ++ (kid, v) ∷ []) kids (s || r) left go) (hw kid given) (he kid given)
    (λ v r left. serves-kids w more hw he go hg ht (done ++ (kid, v) ∷ []) kids (s || r) left)
    (λ v left. subst (λ b. EndsServed (each_kid w (done ++ (kid, v) ∷ []) kids b left go)) (sym (or-true s)) (ends_served-kids w go ht (done ++ (kid, v) ∷ []) kids left))

behind-not_above : (n : ℕ) (p : Position) (u : Plain) (x : Walked) → Behind n x → NotAbove (ask (n ∷ p) u) x
behind-not_above n p u (ask [] w) h = absurd h
behind-not_above n p u (ask (j ∷ q) w) h = λ b. omega (arith, h, b.0)
behind-not_above n p u (end v s given) h = tt
behind-not_above n p u visit_type h = tt
behind-not_above n p u too_large h = tt

not_above-step : (more : List Answer) (n : ℕ) (x y : Walked) (f : Going) → NotAbove x y → Serves x y → Extends more x y
    → ((v : Plain) (s : Bool) (left : List Answer) → NotAbove (f v s left) (f v s (left ++ more)))
    → ((v : Plain) (left : List Answer) → Behind n (f v true left))
    → NotAbove (on_end (in_child n x) f) (on_end (in_child n y) f)
not_above-step more n (ask p u) (ask q w) f a m e h k = λ b. a b.1
not_above-step more n (ask p u) (end v s left) f a m e h k = subst (λ r. NotAbove (ask (n ∷ p) u) (f v r left)) (sym m) (behind-not_above n p u (f v true left) (k v left))
not_above-step more n (ask p u) visit_type f a m e h k = tt
not_above-step more n (ask p u) too_large f a m e h k = tt
not_above-step more n (end v s left) y f a m e h k = subst (λ z. NotAbove (f v s left) (on_end (in_child n z) f)) (sym e) (h v s left)
not_above-step more n visit_type y f a m e h k = tt
not_above-step more n too_large y f a m e h k = tt

not_above-kids : (w : Plain → List Answer → Walked) (more : List Answer) → ((kid : Plain) (given : List Answer) → NotAbove (w kid given) (w kid (given ++ more)))
    → ((kid : Plain) (given : List Answer) → Serves (w kid given) (w kid (given ++ more))) → WalkExtends more w
    → (go : Finish) → ((ks : Children) (s : Bool) (given : List Answer) → NotAbove (go ks s given) (go ks s (given ++ more))) → ((ks : Children) (given : List Answer) → NoAsk (go ks true given))
    → (done : Children) (kids : List Plain) (s : Bool) (given : List Answer) → NotAbove (each_kid w done kids s given go) (each_kid w done kids s (given ++ more) go)
not_above-kids w more hw hs he go hg hn done [] s given = hg done s given
not_above-kids w more hw hs he go hg hn done (kid ∷ kids) s given =
    not_above-step more (length done) (w kid given) (w kid (given ++ more)) (λ v r left. each_kid w (done ++ (kid, v) ∷ []) kids (s || r) left go) (hw kid given) (hs kid given) (he kid given)
    (λ v r left. not_above-kids w more hw hs he go hg hn (done ++ (kid, v) ∷ []) kids (s || r) left)
    (λ v left. subst (λ b. Behind (length done) (each_kid w (done ++ (kid, v) ∷ []) kids b left go)) (sym (or-true s)) (behind-kids-served w go (length done) hn (done ++ (kid, v) ∷ []) kids left (omega (arith, longer done (kid, v)))))

node-extends : (more : List Answer) (u : Plain) (s : Bool) (given : List Answer) → Extends more (node_after u s given) (node_after u s (given ++ more))
node-extends more u true given = refl
node-extends more u false [] = tt
node-extends more u false (no ∷ given) = refl
node-extends more u false (kept ∷ given) = refl
node-extends more u false (changed w ∷ given) = refl

node-serves : (a : Answer) → IsServed a → (after : List Answer) (u : Plain) (s : Bool) (given : List Answer) → Serves (node_after u s given) (node_after u s (given ++ a ∷ after))
node-serves a h after u true given = tt
node-serves no h after u false [] = absurd h
node-serves kept h after u false [] = refl
node-serves (changed w) h after u false [] = refl
node-serves a h after u false (no ∷ given) = tt
node-serves a h after u false (kept ∷ given) = tt
node-serves a h after u false (changed w ∷ given) = tt

node-not_above : (a : Answer) → IsServed a → (after : List Answer) (u : Plain) (s : Bool) (given : List Answer) → NotAbove (node_after u s given) (node_after u s (given ++ a ∷ after))
node-not_above a h after u true given = tt
node-not_above no h after u false [] = absurd h
node-not_above kept h after u false [] = tt
node-not_above (changed w) h after u false [] = tt
node-not_above a h after u false (no ∷ given) = tt
node-not_above a h after u false (kept ∷ given) = tt
node-not_above a h after u false (changed w ∷ given) = tt

up-extends : (more : List Answer) (k : ℕ) (d : Declarations) → WalkExtends more (bottom_up_break k d)
up-extends more zero d v given = tt
up-extends more (suc k) d v given =
    extends-kids (bottom_up_break k d) more (up-extends more k d) (node_after_kids d v)
    (λ ks s left. renewed-both (Extends more) tt tt d v ks s left (left ++ more) node_after (λ u. node-extends more u s left)) [] (kids_of v) false given

up-serves : (a : Answer) → IsServed a → (after : List Answer) (k : ℕ) (d : Declarations) (v : Plain) (before : List Answer) → Serves (bottom_up_break k d v before) (bottom_up_break k d v (before ++ a ∷ after))
up-serves a h after zero d v before = tt
up-serves a h after (suc k) d v before =
    serves-kids (bottom_up_break k d) (a ∷ after) (up-serves a h after k d) (up-extends (a ∷ after) k d) (node_after_kids d v)
    (λ ks s left. renewed-both Serves tt tt d v ks s left (left ++ a ∷ after) node_after (λ u. node-serves a h after u s left))
    (λ ks left. renewed-both (λ x y. EndsServed x) tt tt d v ks true left left node_after (λ u. refl)) [] (kids_of v) false before

up-not_above : (a : Answer) → IsServed a → (after : List Answer) (k : ℕ) (d : Declarations) (v : Plain) (before : List Answer) → NotAbove (bottom_up_break k d v before) (bottom_up_break k d v (before ++ a ∷ after))
up-not_above a h after zero d v before = λ b. b
up-not_above a h after (suc k) d v before =
    not_above-kids (bottom_up_break k d) (a ∷ after) (up-not_above a h after k d) (up-serves a h after k d) (up-extends (a ∷ after) k d) (node_after_kids d v)
    (λ ks s left. renewed-both NotAbove tt tt d v ks s left (left ++ a ∷ after) node_after (λ u. node-not_above a h after u s left))
    (λ ks left. renewed-both (λ x y. NoAsk x) tt tt d v ks true left left node_after (λ u. tt)) [] (kids_of v) false before

pub nothing-above : (d : Declarations) → AsksNothingAbove d BottomUpBreak
unfolding walk
nothing-above d v before after a p q hp h hq =
    let r : NotAbove (ask p hp.0) (bottom_up_break (plain_height v) d v (before ++ a ∷ after)) = subst (λ x. NotAbove x (bottom_up_break (plain_height v) d v (before ++ a ∷ after))) hp.1 (up-not_above a h after (plain_height v) d v before) in
    subst (λ y. NotAbove (ask p hp.0) y) hq.1 r
