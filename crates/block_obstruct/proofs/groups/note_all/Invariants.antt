use Rattle.std.proofs.Common.{◌≡◌, length}
use Rattle.block_obstruct.specs.Groups.{AreNoted}
use Rattle.block_obstruct.proofs.groups.note_all.Given as goal

abbrev pub invariant-loop-x : goal.invariant-loop-x
invariant-loop-x l = record {
  size : length l.notes ≡ length l.fn.notes;
  noted : AreNoted l.fn.tree l.fn.k l.x l.notes;
}
