-- The characters of a class.
use Rattle.std.specs.Prelude.{ℕ, Bool, nat_le, ◌&&◌, not, cond}
use Rattle.std.specs.List.{list_any}
use Rattle.rl_productions.specs.declared.symbol.CharClass.{CharClass}

-- the character stands from the first to the last of a range
abbrev pub is_in_range : ℕ → ℕ × ℕ → Bool
is_in_range c range = nat_le range.0 c && nat_le c range.1

-- some range has the character, or none has it where the class is a complement
abbrev pub holds : CharClass → ℕ → Bool
holds class c = let listed = list_any (is_in_range c) class.items in cond class.complement (not listed) listed
