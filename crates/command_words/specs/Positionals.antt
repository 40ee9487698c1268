-- The command by which clap reads the words, and what it finds.
use Rattle.std.specs.Prelude.{true, List, Option, None, Some, codes}
use Rattle.clap.specs.Simple.{App, new_app, new_rule, on_top, with_rule}
use Rattle.clap.specs.Walk.{Row, Rule, Text, first_of}

-- a required positional
abbrev pub positional : Text → Rule
positional id = record (new_rule id) { required = true }

-- a command that reads all words as its own, and has no help flag
abbrev pub base : App
base = on_top (λ s. record s { no_binary_name = true; disable_help_flag = true }) (new_app (codes "spqr"))

-- the same with three required positionals
abbrev pub three : App
three = with_rule (with_rule (with_rule base (positional (codes "command"))) (positional (codes "first"))) (positional (codes "second"))

-- three texts, where each is there
abbrev pub all_three : Option Text → Option Text → Option Text → Option (Text × Text × Text)
all_three None b c = None
all_three (Some a) None c = None
all_three (Some a) (Some b) None = None
all_three (Some a) (Some b) (Some c) = Some (a, b, c)

-- the texts of the three positionals among what was found
abbrev pub texts_in : List Row → Option (Text × Text × Text)
texts_in rows = all_three (first_of (codes "command") rows) (first_of (codes "first") rows) (first_of (codes "second") rows)
