-- How building a value goes.
use Rattle.std.specs.Prelude.{◌≡◌}
use Rattle.std.specs.declared.result.Result.{Result}
use Rattle.std.specs.declared.result.Result.TheVariants.{Ok, Err}
use Rattle.rl_value.specs.Plain.{Plain, Fits}
use Rattle.rl_value.specs.declared.build_end.BuildEnd.{BuildEnd}
use Rattle.rl_value.specs.declared.build_end.BuildEnd.TheVariants.{TooLarge, OutOfMemory}

-- the value, which fits; or it does not fit; or memory ran out
abbrev pub Builds : Plain → Result Plain BuildEnd → Type 0
Builds t (Ok v) = (v ≡ t) × Fits t
Builds t (Err TooLarge) = ¬ Fits t
Builds t (Err OutOfMemory) = Unit {0}
