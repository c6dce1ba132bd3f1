-- How deep a tree is.
use Rattle.std.specs.Prelude.{ℕ, zero, suc, Option, Some, None}
use Rattle.rl_phrase.specs.Tree.{Tree, Trees, Token, Node, none, more}

abbrev pub either : Option ℕ → Option ℕ → Option ℕ
either None other = other
either (Some n) other = Some n

-- The first token of the leftmost node that is this many levels below the top, if there is one.
abbrev mutual
  pub first_below : Tree → ℕ → Option ℕ
  first_below (Token t) d = None
  first_below (Node rule from to parts) zero = Some from
  first_below (Node rule from to parts) (suc d) = first_among parts d

  pub first_among : Trees → ℕ → Option ℕ
  first_among none d = None
  first_among (more t ts) d = either (first_below t d) (first_among ts d)
