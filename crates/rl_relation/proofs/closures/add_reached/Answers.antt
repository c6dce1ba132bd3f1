use Rattle.std.proofs.Common.{◌≡◌, ◌++◌, ◌⊎◌, inl, inr, map, sym, subst}
use Rattle.rl_value.specs.Plain.{Plain}
use Rattle.rl_value.specs.Rising.{In}
use Rattle.rl_relation.specs.Pairs.{pair_of}
use Rattle.rl_relation.specs.Closures.{Leads}
use Rattle.rl_relation.proofs.ClosureLemmas.{on_ok, added_from, added_in, added_kept, from_large}
use Rattle.rl_relation.proofs.closures.add_reached.Goals as goal

pub returns-clause-reached : goal.returns-clause-reached
returns-clause-reached c =
    on_ok (c.add_pairs.new.pairs.items ≡ c.args.found.now.items ++ map (pair_of c.args.start.now) c.deref.result.now)
    ((q : Plain) → In q c.add_pairs.new.pairs.items → In q c.args.found.now.items ⊎ ((z : Plain) × (q ≡ pair_of c.args.start.now z) × Leads c.args.pairs.now c.args.start.now z))
    c.add_pairs.result
    (λ e q h.
    elim (added_from (pair_of c.args.start.now) c.deref.result.now c.args.found.now.items c.add_pairs.new.pairs.items e q h) [
      | inl k ↦ inl k
      | inr k ↦ inr (k.0, k.1, c.in_ok-ends.ensures.reached k.0 (subst (In k.0) c.deref.ensures.value k.2))
    ])
    c.add_pairs.ensures.ok

pub returns-clause-whole : goal.returns-clause-whole
returns-clause-whole c =
    on_ok (c.add_pairs.new.pairs.items ≡ c.args.found.now.items ++ map (pair_of c.args.start.now) c.deref.result.now)
    ((z : Plain) → Leads c.args.pairs.now c.args.start.now z → In (pair_of c.args.start.now z) c.add_pairs.new.pairs.items)
    c.add_pairs.result
    (λ e z h.
    added_in (pair_of c.args.start.now) c.deref.result.now c.args.found.now.items c.add_pairs.new.pairs.items e z
    (subst (In z) (sym c.deref.ensures.value) (c.in_ok-ends.ensures.whole z h)))
    c.add_pairs.ensures.ok

pub returns-clause-kept : goal.returns-clause-kept
returns-clause-kept c =
    on_ok (c.add_pairs.new.pairs.items ≡ c.args.found.now.items ++ map (pair_of c.args.start.now) c.deref.result.now)
    ((q : Plain) → In q c.args.found.now.items → In q c.add_pairs.new.pairs.items)
    c.add_pairs.result
    (λ e q h. added_kept (pair_of c.args.start.now) c.deref.result.now c.args.found.now.items c.add_pairs.new.pairs.items e q h)
    c.add_pairs.ensures.ok

pub returns-clause-large : goal.returns-clause-large
returns-clause-large c =
    λ e.
    let r = from_large (pair_of c.args.start.now) c.deref.result.now (c.add_pairs.ensures.large e) in
    (r.0, c.in_ok-ends.ensures.reached r.0 (subst (In r.0) c.deref.ensures.value r.1), r.2)
