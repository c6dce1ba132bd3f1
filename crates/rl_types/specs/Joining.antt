-- Lists and sets alike, as types are joined.
use Rattle.rl_types.specs.PlainType.{PlainType, list, set}
use Rattle.rl_types.specs.declared.joining.Collection.{Collection}
use Rattle.rl_types.specs.declared.joining.Collection.TheVariants as kind

-- the type of the collections of this kind, with elements of the type
abbrev pub collection_of : Collection → PlainType → PlainType
collection_of kind.List T = list T
collection_of kind.Set T = set T
