-- What modules declare.
use Rattle.std.specs.Prelude.{ℕ, List, [], ◌∷◌, ◌++◌, map, flat_map}
use Rattle.rl_syntax.specs.declared.declaration.Decl.{Decl}
use Rattle.rl_syntax.specs.declared.declaration.Decl.TheVariants as d
use Rattle.rl_syntax.specs.declared.declaration.Variant.{Variant}
use Rattle.rl_syntax.specs.declared.module.Module.{Module}
use Rattle.rl_types.specs.Declarations.{Declarations}
use Rattle.rl_types.specs.Exceptions.{exception_name, exceptions}
use Rattle.rl_types.specs.View.{constructor_of}
use Rattle.rl_types.specs.declared.constructor.Constructor.{Constructor}

abbrev pub data_types_in : Decl → List (List ℕ)
data_types_in (d.Data place name variants) = name.name ∷ []
data_types_in declaration = []

abbrev pub variant_of : List ℕ → Variant → Constructor
variant_of owner variant = record { owner = owner; name = variant.name.name; fields = variant.fields }

abbrev pub constructors_in : Decl → List Constructor
constructors_in (d.Data place name variants) = map (variant_of name.name) variants
constructors_in declaration = []

abbrev pub sorts_in : Decl → List (List ℕ)
sorts_in (d.Syntax definition) = definition.sort ∷ []
sorts_in declaration = []

-- what each declaration of the modules gives, in module and text order
abbrev pub in_all : {A : Type 0} → (Decl → List A) → List Module → List A
in_all f modules = flat_map (λ m. flat_map f m.declarations) modules

-- the exceptions, and then what the modules declare
abbrev pub declarations_of : List Module → Declarations
declarations_of modules = record {
  data_types = exception_name ∷ in_all data_types_in modules;
  constructors = exceptions ++ map constructor_of (in_all constructors_in modules);
  sorts = in_all sorts_in modules;
}
