-- What the words that the program is called with ask for.
use Rattle.std.specs.Prelude.{ℕ, ◌+◌, ◌^◌, Bool, true, not, ◌==◌, nat_le, if◌then◌else◌, List, [], ◌∷◌, Option, None, Some, option_and_then, bytes_eq, codes}
use Rattle.std.specs.List.{list_all}
use Rattle.decimals.specs.Number.{number_below}
use Rattle.command_words.specs.declared.forms.Form.{Form}
use Rattle.command_words.specs.declared.forms.Form.TheVariants as form

-- a report on a graph file and a script, by their names; or a graph of this many edges that is made from a number
pub data Asked : Type 0 where
  Run : List ℕ → List ℕ → Asked
  Make : ℕ → ℕ → Asked

-- what a form asks for
abbrev pub asked : Form → Asked
asked (form.Run graph script) = Run graph.now script.now
asked (form.Make edges seed) = Make edges seed

-- a word that does not begin with `-`
abbrev pub is_plain : List ℕ → Bool
is_plain [] = true
is_plain (first ∷ others) = not (first == 45)

-- the number, where it is m or more
abbrev pub at_least : ℕ → Option ℕ → Option ℕ
at_least m None = None
at_least m (Some n) = (if nat_le m n then Some n else None)

-- the least and the greatest number of edges of a graph to be made
abbrev pub least_edges : ℕ
least_edges = 6

abbrev pub greatest_edges : ℕ
greatest_edges = 20000

-- a graph to be made, where both numbers are there
abbrev pub make_of : Option ℕ → Option ℕ → Option Asked
make_of None seed = None
make_of (Some n) None = None
make_of (Some n) (Some seed) = Some (Make n seed)

-- the words `run GRAPH SCRIPT`, or `make N SEED` with N from 6 to 20,000 and SEED from 0 to 2^64 - 1, each in one or more
-- decimal digits
abbrev pub command_of : List ℕ × List ℕ × List ℕ → Option Asked
command_of words =
    (if bytes_eq words.0 (codes "run") then Some (Run words.1 words.2) else (if bytes_eq words.0 (codes "make") then make_of (at_least least_edges (number_below (greatest_edges + 1) words.1)) (number_below (2 ^ 64) words.2) else None))

-- exactly three words
abbrev pub three_in : List (List ℕ) → Option (List ℕ × List ℕ × List ℕ)
three_in [] = None
three_in (command ∷ []) = None
three_in (command ∷ first ∷ []) = None
three_in (command ∷ first ∷ second ∷ []) = Some (command, first, second)
three_in (command ∷ first ∷ second ∷ another ∷ others) = None

-- what the words ask for: three words, none of which begins with `-`, that are such a command. Other words are no form
abbrev pub form_of : List (List ℕ) → Option Asked
form_of words = (if list_all is_plain words then option_and_then command_of (three_in words) else None)
