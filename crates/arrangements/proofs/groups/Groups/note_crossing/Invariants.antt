use Rattle.std.proofs.Common.{length}
use Rattle.arrangements.specs.Groups.{AreEnds, HaveRoom, Hold}
use Rattle.arrangements.proofs.groups.Groups.note_crossing.Given as goal

-- the groups before this place
abbrev pub invariant-loop-i : goal.invariant-loop-i
invariant-loop-i l = record {
  room : HaveRoom l.self (length l.ranks);
  ends : AreEnds l.ranks l.self.first.items l.self.last.items;
  hold : Hold l.self l.ranks l.i;
}
