-- The bytes so far end no word.
use Rattle.std.proofs.Common.{◌≡◌, true, take}
use Rattle.std.specs.List.{list_all}
use Rattle.gml_text.specs.Bytes.{is_word_byte}
use Rattle.gml_text.proofs.scan.split_word.Given as goal

abbrev pub invariant-loop-i : goal.invariant-loop-i
invariant-loop-i l = list_all is_word_byte (take l.i l.bytes) ≡ true
