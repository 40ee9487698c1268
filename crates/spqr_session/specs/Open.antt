-- What the definitions of commands may leave open: which of several texts a command answers, and whether it has an answer.
use Rattle.std.specs.Prelude.{◌≡◌, ℕ, Bool, true, false, List, [], ◌∷◌, All, ⊤}
use Rattle.spqr_script.specs.declared.command.Command.{Command}
use Rattle.spqr_script.specs.declared.command.Command.TheVariants as command

-- whether a command may have several texts in one state: `longest` has, since other moves may lead to a face of the same length, and
-- `draw` has, since other points may be a drawing
abbrev pub leaves_open : Command → Bool
leaves_open (command.Longest b) = true
leaves_open (command.Draw b) = true
leaves_open command = false

-- whether a command may have no answer in a state: each command has one
abbrev pub may_lack_answer : Command → Bool
may_lack_answer command = false

-- none of the commands leaves its text open
abbrev pub NoneOpen : List Command → Type 0
NoneOpen commands = All (λ command. leaves_open command ≡ false) commands

-- each of the commands has an answer
abbrev pub AllAnswered : List Command → Type 0
AllAnswered commands = All (λ command. may_lack_answer command ≡ false) commands

-- two lists of texts, one text for each command, agree on what is left open: they have the same text of each command that may have several
abbrev pub AgreeOnTexts : List Command → List (List ℕ) → List (List ℕ) → Type 0
AgreeOnTexts [] ss ts = ⊤
AgreeOnTexts (command ∷ commands) [] ts = ⊤
AgreeOnTexts (command ∷ commands) (s ∷ ss) [] = ⊤
AgreeOnTexts (command ∷ commands) (s ∷ ss) (t ∷ ts) = (leaves_open command ≡ true → s ≡ t) × AgreeOnTexts commands ss ts
