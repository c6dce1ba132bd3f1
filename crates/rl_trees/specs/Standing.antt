-- Spans as the entries of a map that keeps them in order.
use Rattle.std.specs.Prelude.{ℕ}
use Rattle.std.specs.declared.cmp.Ordering.{Ordering}
use Rattle.std.specs.declared.cmp.Reverse.{Reverse}
use Rattle.std.specs.Ordering.{nat_cmp, ordering_then}
use Rattle.rl_value.specs.Plain.{Plain}
use Rattle.rl_trees.specs.declared.walk.Span.{Span}

-- offset, length, and place in the walk
abbrev pub Standing : Type 0
Standing = ℕ × Reverse ℕ × ℕ

abbrev pub standing_cmp : Standing → Standing → Ordering
standing_cmp x y = ordering_then (ordering_then (nat_cmp x.0 y.0) (nat_cmp y.1.0 x.1.0)) (nat_cmp x.2 y.2)

abbrev pub standing : ℕ → Span → Standing
standing place span = (span.offset, record { 0 = span.length }, place)

abbrev pub span_of : Standing × Plain → Span
span_of e = record { offset = e.0.0; length = e.0.1.0; tree = e.1 }
