use Rattle.std.proofs.Common.{◌≡◌, ◌<◌, ◌-◌, ◌∙◌, ℕ, List, length, get_or, subst, sym, ap, arith}
use Rattle.rl_base.specs.Lines.{line_starts, Rises, IsCount}
use Rattle.rl_base.proofs.LinesLemmas.{line_starts_rise, IsPlaced, placed}
use Rattle.rl_base.proofs.text.Chars.place.Goals as goal
use Rattle.rl_base.proofs.text.Chars.place.Goals.{After-line_start-start}

pub count_at_most-ended-requires-clause-rises : goal.count_at_most-ended-requires-clause-rises
count_at_most-ended-requires-clause-rises c =
    subst Rises (sym (c.deref.ensures.value ∙ c.self.invariant.1)) (line_starts_rise c.self.inside.items.items 0)

is_placed : (c : After-line_start-start) → IsPlaced c.args.self.now c.args.offset c.count_at_most-ended.result c.line_start-start.result
is_placed c =
    let text = c.args.self.now in
    let ended = c.count_at_most-ended.result in
    let starts_are : c.self.inside.starts.items ≡ line_starts 0 text = c.self.invariant.1 ∙ ap (line_starts 0) c.self.view_is in
    let Count : List ℕ → Type 0 = λ xs. IsCount xs c.args.offset ended in
    let Later : List ℕ → Type 0 = λ xs. 0 < ended → c.line_start-start.result ≡ get_or xs (ended - 1) 0 in
    placed text c.self.inside.starts.items c.args.offset ended c.line_start-start.result starts_are c.requires (subst Count c.deref.ensures.value c.count_at_most-ended.ensures) c.line_start-start.ensures.first (subst Later c.deref-3.ensures.value c.line_start-start.ensures.later)

pub overflow_cast-result : goal.overflow_cast-result
overflow_cast-result c =
    let few = (is_placed (goal.at.overflow_cast-result c).After-line_start-start).few in
    let limit = c.self.invariant.0 in
    let same = ap length c.self.view_is in
    omega arith

pub overflow_add-result : goal.overflow_add-result
overflow_add-result c =
    let few = (is_placed (goal.at.overflow_add-result c).After-line_start-start).few in
    let limit = c.self.invariant.0 in
    let same = ap length c.self.view_is in
    omega arith

pub overflow_sub-result : goal.overflow_sub-result
overflow_sub-result c = (is_placed c).within

pub returns : goal.returns
returns c =
    let line = (is_placed c).line in
    let column = (is_placed c).column in
    cc
