-- A row that does not fit spoils the list of the rows.
use Rattle.std.proofs.Common.{◌≡◌, Err, ◌≤◌, List, [], ◌∷◌, ◌++◌, ap, arith}
use Rattle.rl_value.specs.Plain.{Plain, plains_of, plain_size, plains_size, plain_height, plains_height}
use Rattle.rl_value.specs.Built.{Builds}
use Rattle.rl_value.specs.declared.build_end.BuildEnd.{BuildEnd}
use Rattle.rl_value.specs.declared.build_end.BuildEnd.TheVariants.{TooLarge, OutOfMemory}
use Rattle.rl_arguments.specs.Arguments.{list_of}
use Rattle.rl_arguments.specs.Lists.{BuildsList}

size_among : (done : List Plain) (t : Plain) (rest : List Plain) → plain_size t ≤ plains_size (plains_of (done ++ t ∷ rest))
size_among [] t rest = omega arith
size_among (u ∷ done) t rest = omega (arith, size_among done t rest)

height_among : (done : List Plain) (t : Plain) (rest : List Plain) → plain_height t ≤ plains_height (plains_of (done ++ t ∷ rest))
height_among [] t rest = omega arith
height_among (u ∷ done) t rest = omega (arith, height_among done t rest)

pub spoils : (ts done : List Plain) (t : Plain) (rest : List Plain) (end : BuildEnd) → done ++ t ∷ rest ≡ ts → Builds t (Err end) → BuildsList ts (Err end)
spoils ts done t rest TooLarge e b =
    λ f. b (record {
      size = omega (arith, f.size, size_among done t rest, ap (λ us. plains_size (plains_of us)) e);
      height = omega (arith, f.height, height_among done t rest, ap (λ us. plains_height (plains_of us)) e);
    })
spoils ts done t rest OutOfMemory e b = tt

pub unbuilt_list : (ts : List Plain) (end : BuildEnd) → BuildsList ts (Err end) → Builds (list_of ts) (Err end)
unbuilt_list ts TooLarge b = b
unbuilt_list ts OutOfMemory b = tt
