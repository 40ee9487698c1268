use Rattle.std.proofs.Common.{◌≡◌, drop}
use Rattle.spqr_script.specs.Words.{word_among}
use Rattle.spqr_script.proofs.word.search.Given as goal

abbrev pub invariant-loop-word : goal.invariant-loop-word
invariant-loop-word l = word_among (drop l.word-index l.words) l.name ≡ word_among l.words l.name
