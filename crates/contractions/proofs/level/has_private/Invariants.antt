use Rattle.std.proofs.Common.{◌≡◌, false}
use Rattle.permutations.specs.Count.{some}
use Rattle.contractions.specs.Contraction.{is_private}
use Rattle.contractions.proofs.level.has_private.Given as goal

abbrev pub invariant-loop-edge : goal.invariant-loop-edge
invariant-loop-edge l = some l.edge (is_private l.g l.e l.x l.y) ≡ false
