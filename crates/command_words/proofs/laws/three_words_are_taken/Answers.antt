use Rattle.command_words.proofs.ThreeWords.{plain-takes, other-faults}
use Rattle.command_words.proofs.laws.three_words_are_taken.Goals as goal

pub returns : goal.returns
returns c = record { taken = plain-takes; refused = other-faults }
