-- The condition of a match, and its test.
use Rattle.std.proofs.Common.{◌≡◌, ◌↔◌, ℕ, true, List, []}
use Rattle.std.specs.List.{list_all}
use Rattle.rl_syntax.specs.declared.pattern.Pattern.{Pattern}
use Rattle.rl_types.specs.Matchable.{FragmentHoles, uses, has_number, are_fresh, has_its_holes, differ, is_apart, MayStart, may_start}
use Rattle.rl_types.proofs.Order.{both, joined}

module _ (pattern : Pattern) (outside : List ℕ) (fragments : List FragmentHoles) where
  passed : may_start pattern outside fragments ≡ true → MayStart pattern outside fragments
  passed e =
      let a = both _ _ e in
      let b = both _ _ a.0 in
      let c = both _ _ b.0 in
      let d = both _ _ c.0 in
      record { fresh = d.0; tested = d.1; holes = c.1; distinct = b.1; apart = a.1 }

  passes : MayStart pattern outside fragments → may_start pattern outside fragments ≡ true
  passes m = joined _ _ (joined _ _ (joined _ _ (joined _ _ m.fresh m.tested) m.holes) m.distinct) m.apart

  pub may_start-tells : (may_start pattern outside fragments ≡ true) ↔ MayStart pattern outside fragments
  may_start-tells = (passed, passes)
