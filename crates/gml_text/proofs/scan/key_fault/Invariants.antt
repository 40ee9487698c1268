-- The bytes so far may stand in a key.
use Rattle.std.proofs.Common.{◌≡◌, true, take}
use Rattle.std.specs.List.{list_all}
use Rattle.gml_text.specs.Bytes.{is_key_byte}
use Rattle.gml_text.proofs.scan.key_fault.Given as goal

abbrev pub invariant-loop-i : goal.invariant-loop-i
invariant-loop-i l = list_all is_key_byte (take l.i l.word) ≡ true
