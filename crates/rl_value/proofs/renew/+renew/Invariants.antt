use Rattle.std.proofs.Common.{◌≡◌, ◌+◌, ◌*◌, ◌≤◌, ◌++◌, drop, length, All}
use Rattle.rl_value.specs.Plain.{plains_of, plain_size, plains_size, IsPart}
use Rattle.rl_value.specs.Kids.{parts_kids}
use Rattle.rl_value.proofs.RenewLemmas.{renew_list}
use Rattle.rl_value.proofs.renew.+renew.Given as goal

abbrev pub decreases-renewed_part : goal.decreases-renewed_part
decreases-renewed_part l = 3 * plain_size l.part.now

abbrev pub decreases-renewed_tree : goal.decreases-renewed_tree
decreases-renewed_tree l = 3 * plains_size (plains_of l.old.now.parts.items.items) + 2

abbrev pub decreases-renewed_parts : goal.decreases-renewed_parts
decreases-renewed_parts l = 3 * plains_size (plains_of l.parts.now) + 1

abbrev pub invariant-renewed_parts-loop-part : goal.invariant-renewed_parts-loop-part
invariant-renewed_parts-loop-part l =
    record {
      done : l.renewed.items ++ renew_list (drop l.part-index l.parts) (drop l.used l.kids) ≡ renew_list l.parts l.kids;
      enough : l.used + length (parts_kids (plains_of (drop l.part-index l.parts))) ≤ length l.kids;
      made : All IsPart l.renewed.items;
    }
