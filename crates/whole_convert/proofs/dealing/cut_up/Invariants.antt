use Rattle.whole_convert.specs.Led.{degree_in}
use Rattle.whole_convert.proofs.Pieces.{AreCut}
use Rattle.whole_convert.proofs.dealing.cut_up.Given as goal

abbrev pub invariant-loop-i : goal.invariant-loop-i
invariant-loop-i l = AreCut (degree_in l.part) l.part.vertices l.edges l.lists l.at l.i
