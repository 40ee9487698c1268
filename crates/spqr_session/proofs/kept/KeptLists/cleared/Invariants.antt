-- Those of the vertices so far.
use Rattle.std.proofs.Common.{◌≡◌, take}
use Rattle.spqr_session.specs.Board.{clearings}
use Rattle.spqr_session.proofs.kept.KeptLists.cleared.Given as goal

abbrev pub invariant-loop-v : goal.invariant-loop-v
invariant-loop-v l = l.cuts.items ≡ clearings l.self (take l.v-index l.vertices)
