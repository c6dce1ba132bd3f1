-- Spans by their offset, longer ones first, and then as a walk meets them.
use Rattle.std.specs.Prelude.{List, [], ◌∷◌, if◌then◌else◌}
use Rattle.std.specs.declared.cmp.Ordering.{Ordering}
use Rattle.std.specs.Ordering.{nat_cmp, ordering_then, is_lt}
use Rattle.rl_trees.specs.declared.walk.Span.{Span}

-- by offset, the longer one first
abbrev pub span_cmp : Span → Span → Ordering
span_cmp s r = ordering_then (nat_cmp s.offset r.offset) (nat_cmp r.length s.length)

-- s in front of the first that it is below
abbrev pub put : Span → List Span → List Span
put s [] = s ∷ []
put s (r ∷ rs) = if is_lt (span_cmp s r) then s ∷ r ∷ rs else r ∷ put s rs

-- each put to those that came before it
abbrev pub put_all : List Span → List Span → List Span
put_all rs [] = rs
put_all rs (s ∷ ss) = put_all (put s rs) ss

abbrev pub in_order : List Span → List Span
in_order ss = put_all [] ss
