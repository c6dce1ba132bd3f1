-- How building the elements of a list goes.
use Rattle.std.specs.Prelude.{◌≡◌, List}
use Rattle.std.specs.declared.vec.Vec.{Vec}
use Rattle.std.specs.declared.alloc.Global.{Global}
use Rattle.std.specs.declared.result.Result.{Result}
use Rattle.std.specs.declared.result.Result.TheVariants.{Ok, Err}
use Rattle.rl_value.specs.Plain.{Plain, Fits}
use Rattle.rl_value.specs.declared.build_end.BuildEnd.{BuildEnd}
use Rattle.rl_value.specs.declared.build_end.BuildEnd.TheVariants.{TooLarge, OutOfMemory}
use Rattle.rl_arguments.specs.Arguments.{list_of}

-- these elements; or their list does not fit; or memory ran out
abbrev pub BuildsList : List Plain → Result (Vec Plain Global) BuildEnd → Type 0
BuildsList ts (Ok v) = v.items ≡ ts
BuildsList ts (Err TooLarge) = ¬ Fits (list_of ts)
BuildsList ts (Err OutOfMemory) = Unit {0}
