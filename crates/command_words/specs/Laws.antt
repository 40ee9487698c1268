-- What is proved of clap and words that do not begin with `-`, as statements.
use Rattle.std.specs.Prelude.{◌≡◌, ◌≢◌, ℕ, true, List, [], ◌∷◌, None}
use Rattle.std.specs.List.{list_all}
use Rattle.clap.specs.Takes.{takes}
use Rattle.clap.specs.Faults.{fault_of}
use Rattle.command_words.specs.Form.{is_plain, three_in}
use Rattle.command_words.specs.Positionals.{three}

-- three such words are taken: a parse fails only if memory runs out
abbrev pub ThreeWordsAreTaken : Type 0
ThreeWordsAreTaken = (a b c : List ℕ) → list_all is_plain (a ∷ b ∷ c ∷ []) ≡ true → takes three (a ∷ b ∷ c ∷ []) ≡ true

-- in other such words a fault is found: no parse succeeds
abbrev pub OtherWordsAreRefused : Type 0
OtherWordsAreRefused = (words : List (List ℕ)) → list_all is_plain words ≡ true → three_in words ≡ None → fault_of three words ≢ []
