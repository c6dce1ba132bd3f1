-- intercalate.
use Rattle.std.specs.Prelude.{List, map}
use Rattle.rl_value.specs.Plain.{Plain, text}
use Rattle.rl_exception.specs.Answer.{Answer, fitting}
use Rattle.rl_print.specs.Printed.{shown_of}
use Rattle.rl_arguments.specs.Arguments.{taking, str_in, list_in}
use Rattle.rl_strings.specs.Pieces.{joined}

abbrev pub intercalate_of : Plain → Plain → Answer
intercalate_of s t = taking (str_in s) (λ between. taking (list_in t) (λ ts. fitting (text (joined between (map shown_of ts)))))
