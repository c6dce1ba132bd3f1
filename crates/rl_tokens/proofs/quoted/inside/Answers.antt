use Rattle.std.proofs.Common.{◌+◌, ◌∙◌, length, length-drop, sym, ap, arith}
use Rattle.std.proofs.lemmas.List.{take_rest}
use Rattle.rl_tokens.specs.Fault.{leftmost_from}
use Rattle.rl_tokens.specs.Quoted.{next, faults_of_dash}
use Rattle.rl_tokens.proofs.QuotedLemmas.{leftmost_from-append, inside_blank, inside_dash, inside_bad, inside_passes}
use Rattle.rl_tokens.proofs.quoted.inside.Goals as goal

pub loop-at-preserved-in-Blank : goal.loop-at-preserved-in-Blank
loop-at-preserved-in-Blank c =
    let text = c.args.text.now in
    let at = c.loop-at.at in
    let is = c.in-Blank.ensures.value ∙ ap (next c.args.form) (take_rest text at) in
    let e = inside_blank c.args.form c.loop-at.before c.args.offset text at (omega arith) is in
    record {
      within = omega arith;
      quoted = sym (ap (λ r. r.quoted) e) ∙ c.loop-at.invariant.quoted;
      faults = sym (ap (λ r. leftmost_from c.loop-at.faults.first r.faults) e) ∙ c.loop-at.invariant.faults;
    }

pub loop-at-preserved-in-Dash : goal.loop-at-preserved-in-Dash
loop-at-preserved-in-Dash c =
    let text = c.args.text.now in
    let at = c.loop-at.at in
    let first = c.loop-at.faults.first in
    let here = c.args.offset + at in
    let dash = c.behind_dash-before.ensures in
    let is = c.in-Dash.ensures.value ∙ ap (next c.args.form) (take_rest text at) in
    let e = inside_dash c.args.form c.loop-at.before c.args.offset text at (omega arith) is in
    rw (dash.value, dash.faults) (record {
      within = omega arith;
      quoted = sym (ap (λ r. r.quoted) e) ∙ c.loop-at.invariant.quoted;
      faults = (sym (leftmost_from-append first (faults_of_dash c.loop-at.before here) _) ∙ sym (ap (λ r. leftmost_from first r.faults) e)) ∙ c.loop-at.invariant.faults;
    })

pub loop-at-preserved-in-Passes : goal.loop-at-preserved-in-Passes
loop-at-preserved-in-Passes c =
    let text = c.args.text.now in
    let at = c.loop-at.at in
    let is = c.in-Passes.ensures.value ∙ ap (next c.args.form) (take_rest text at) in
    let within = c.in-Passes.ensures.within in
    let fits = ap (λ t. length t) (take_rest text at) in
    let left = length-drop at text in
    let e = inside_passes c.args.form c.loop-at.before c.args.offset text at (omega arith) c.in-Passes.more is (omega arith) in
    rw c.behind_item-before.ensures (record {
      within = omega arith;
      quoted = sym (ap (λ r. r.quoted) e) ∙ c.loop-at.invariant.quoted;
      faults = sym (ap (λ r. leftmost_from c.loop-at.faults.first r.faults) e) ∙ c.loop-at.invariant.faults;
    })

pub loop-at-preserved : goal.loop-at-preserved
loop-at-preserved c =
    let text = c.args.text.now in
    let at = c.loop-at.at in
    let is = c.in-Bad.ensures.value ∙ ap (next c.args.form) (take_rest text at) in
    let e = inside_bad c.args.form c.loop-at.before c.args.offset text at (omega arith) is in
    rw c.note.ensures (record {
      within = omega arith;
      quoted = sym (ap (λ r. r.quoted) e) ∙ c.loop-at.invariant.quoted;
      faults = sym (ap (λ r. leftmost_from c.loop-at.faults.first r.faults) e) ∙ c.loop-at.invariant.faults;
    })
