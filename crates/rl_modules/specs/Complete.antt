-- What the modules of a program are when all of them are loaded.
use Rattle.std.specs.Prelude.{◌≡◌, ◌≢◌, ◌⊎◌, ℕ, ◌≤◌, nat_lt, ◌==◌, if◌then◌else◌, IsTrue, List, length, IfSome}
use Rattle.std.specs.List.{All, AllPairs, Contains, count_by, slice_get}
use Rattle.rl_syntax.specs.declared.module.Modules.{Modules}
use Rattle.rl_syntax.specs.declared.declaration.Decl.{Decl}
use Rattle.rl_visibility.specs.BuiltIn.{is_built_in}
use Rattle.rl_modules.specs.Load.{import_of, most_modules, names_of}

-- each number below a bound stands in a list once, and no other number does
abbrev pub EachOnce : (bound : ℕ) → List ℕ → Type 0
EachOnce bound numbers = (n : ℕ) → count_by (λ k. k == n) numbers ≡ (if nat_lt n bound then 1 else 0)

-- what a declaration imports or extends, if anything, is built in or has one of these names
abbrev pub LeadsTo : (names : List (List ℕ)) → Decl → Type 0
LeadsTo names declaration = IfSome (import_of declaration) (λ found. IsTrue (is_built_in found.1) ⊎ Contains names found.1)

pub record IsComplete (modules : Modules) : Type 0 where
  -- there is a first module, and there are not too many
  pub some : 1 ≤ length modules.list
  pub few : length modules.list ≤ most_modules
  -- no two have the same name
  pub distinct : AllPairs (λ a b. a ≢ b) (names_of modules.list)
  -- the place of each has its number, which is its place in the list
  pub numbered : (k : ℕ) → IfSome (slice_get modules.list k) (λ it. it.place.«module» ≡ k)
  -- each of them was finished once, and nothing else was
  pub finished : EachOnce (length modules.list) modules.finished
  -- each module that they import or extend is built in or one of them
  pub closed : All (λ it. All (LeadsTo (names_of modules.list)) it.declarations) modules.list
