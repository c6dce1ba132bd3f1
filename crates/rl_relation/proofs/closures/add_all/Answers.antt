use Rattle.std.proofs.Common.{◌<◌, length, sym, subst, arith}
use Rattle.rl_value.specs.Rising.{In}
use Rattle.rl_relation.proofs.PathLemmas.{grows_none, grows_one, has_more, one_in, In-at, take_all}
use Rattle.rl_relation.proofs.closures.add_all.Goals as goal

pub loop-value-init : goal.loop-value-init
loop-value-init c = record {
  covered = c.requires;
  has = λ z h. absurd h;
  grown = grows_none c.args.values.now c.args.found.now.items;
}

pub loop-value-preserved : goal.loop-value-preserved
loop-value-preserved c =
    let below : c.loop-value.value-index < length c.args.values.now = omega arith in
    record {
      covered = c.in_ok-add.ensures.covered;
      has = has_more c.args.values.now c.loop-value.found.items c.add.new.found.items c.loop-value.value-index c.value-item.result below c.value-item.is
          c.loop-value.invariant.has (one_in c.loop-value.found.items c.add.new.found.items c.value-item.result c.in_ok-add.ensures.grown) c.in_ok-add.ensures.has;
      grown = grows_one c.args.values.now c.args.found.now.items c.loop-value.found.items c.add.new.found.items c.value-item.result
          (In-at c.args.values.now c.loop-value.value-index c.value-item.result below c.value-item.is) c.loop-value.invariant.grown c.in_ok-add.ensures.grown;
    }

pub returns-clause-has : goal.returns-clause-has
returns-clause-has c =
    λ z h. c.loop-value.invariant.has z (subst (In z) (sym (take_all c.args.values.now c.loop-value.value-index (omega arith))) h)
