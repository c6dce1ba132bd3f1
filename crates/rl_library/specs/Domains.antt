-- domain and range, of maps and of relations.
use Rattle.rl_value.specs.Plain.{Plain, mapping, entries_of}
use Rattle.rl_exception.specs.Answer.{Answer}
use Rattle.rl_collections.specs.Maps.{keys_of, values_of}
use Rattle.rl_relation.specs.Relations as relations

abbrev pub domain_of : Plain → Answer
domain_of (mapping ps) = keys_of (entries_of ps)
domain_of t = relations.domain_of t

abbrev pub range_of : Plain → Answer
range_of (mapping ps) = values_of (entries_of ps)
range_of t = relations.range_of t
