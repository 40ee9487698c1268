-- What completes a number from here on is what completes one behind the bytes so far.
use Rattle.std.proofs.Common.{take}
use Rattle.gml_text.proofs.WordBreaks.{LeadsTo}
use Rattle.gml_text.proofs.number.number_fault.Given as goal

abbrev pub invariant-loop-i : goal.invariant-loop-i
invariant-loop-i l = LeadsTo (take l.i l.word) l.part
