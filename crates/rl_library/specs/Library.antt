-- The library functions that print, read and parse nothing, but implode, by their names.
use Rattle.std.specs.Prelude.{ℕ, List, [], ◌∷◌, Option, Some, None, is_some, if◌then◌else◌}
use Rattle.rl_value.specs.Plain.{Plain}
use Rattle.rl_exception.specs.Answer.{Answer, Throws}
use Rattle.rl_exception.specs.Exceptions.{wrong_kind}
use Rattle.rl_library.specs.declared.functions.Lib.{Lib}
use Rattle.rl_library.specs.declared.functions.Lib.TheVariants as lib
use Rattle.rl_collections.specs.Sizes.{size_of, is_empty_of}
use Rattle.rl_collections.specs.Ends.{head_of, last_of, tail_of}
use Rattle.rl_collections.specs.Lists.{reverse_of, take_of, drop_of, index_of, to_set_of}
use Rattle.rl_collections.specs.Repeats.{dup_of}
use Rattle.rl_collections.specs.Sorting.{sort_of}
use Rattle.rl_collections.specs.Maps.{to_list_of, delete_of}
use Rattle.rl_collections.specs.Extremes.{max_of, min_of}
use Rattle.rl_collections.specs.Sums.{sum_of}
use Rattle.rl_relation.specs.Relations.{carrier_of, invert_of, domain_restricted_of, domain_excluded_of, range_restricted_of, range_excluded_of}
use Rattle.rl_strings.specs.Joining.{intercalate_of}
use Rattle.rl_strings.specs.Search.{contains_of, starts_with_of, ends_with_of}
use Rattle.rl_strings.specs.Pieces.{split_of, replace_all_of}
use Rattle.rl_strings.specs.Trimming.{trim_of}
use Rattle.rl_strings.specs.Parts.{substring_of}
use Rattle.rl_strings.specs.Numbers.{to_int_of}
use Rattle.rl_trees.specs.Rows.{spans_of, unparse_of}
use Rattle.rl_library.specs.Domains.{domain_of, range_of}

-- the functions of one argument
abbrev pub with_one : Lib → Option (Plain → Answer)
with_one lib.Size = Some size_of
with_one lib.IsEmpty = Some is_empty_of
with_one lib.Head = Some head_of
with_one lib.Last = Some last_of
with_one lib.Tail = Some tail_of
with_one lib.Reverse = Some reverse_of
with_one lib.Dup = Some dup_of
with_one lib.Sort = Some sort_of
with_one lib.ToSet = Some to_set_of
with_one lib.ToList = Some to_list_of
with_one lib.Max = Some max_of
with_one lib.Min = Some min_of
with_one lib.Sum = Some sum_of
with_one lib.Domain = Some domain_of
with_one lib.Range = Some range_of
with_one lib.Carrier = Some carrier_of
with_one lib.Invert = Some invert_of
with_one lib.Trim = Some trim_of
with_one lib.ToInt = Some to_int_of
with_one lib.Unparse = Some unparse_of
with_one f = None

-- the functions of two arguments
abbrev pub with_two : Lib → Option (Plain → Plain → Answer)
with_two lib.Take = Some take_of
with_two lib.Drop = Some drop_of
with_two lib.IndexOf = Some index_of
with_two lib.Intercalate = Some intercalate_of
with_two lib.Delete = Some delete_of
with_two lib.DomainR = Some domain_restricted_of
with_two lib.DomainX = Some domain_excluded_of
with_two lib.RangeR = Some range_restricted_of
with_two lib.RangeX = Some range_excluded_of
with_two lib.Contains = Some contains_of
with_two lib.StartsWith = Some starts_with_of
with_two lib.EndsWith = Some ends_with_of
with_two lib.Split = Some split_of
with_two lib.Spans = Some spans_of
with_two f = None

-- the functions of three arguments
abbrev pub with_three : Lib → Option (Plain → Plain → Plain → Answer)
with_three lib.ReplaceAll = Some replace_all_of
with_three lib.Substring = Some substring_of
with_three f = None

-- how many arguments a function takes
abbrev pub arity_of : Lib → Option ℕ
arity_of f =
    if is_some (with_one f) then Some 1
    else if is_some (with_two f) then Some 2
    else if is_some (with_three f) then Some 3
    else None

abbrev pub called : {A : Type 0} → Option A → (A → Answer) → Answer
called None answer = Throws wrong_kind
called (Some function) answer = answer function

-- what a function answers to as many arguments as it takes
abbrev pub library_of : Lib → List Plain → Answer
library_of f (a ∷ []) = called (with_one f) (λ function. function a)
library_of f (a ∷ b ∷ []) = called (with_two f) (λ function. function a b)
library_of f (a ∷ b ∷ c ∷ []) = called (with_three f) (λ function. function a b c)
library_of f ts = Throws wrong_kind
