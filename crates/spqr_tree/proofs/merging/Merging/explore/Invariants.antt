use Rattle.std.proofs.Common.{◌≡◌}
use Rattle.spqr_tree.specs.Merging.{IsMerging, KeepsLed, pieces_left}
use Rattle.spqr_tree.proofs.merging.Merging.explore.Given as goal

abbrev pub ghost-look : goal.ghost-look
ghost-look g a = g.comps

abbrev pub invariant-loop-piece : goal.invariant-loop-piece
invariant-loop-piece g l = IsMerging g.comps l.kind l.self × (l.self.groups ≡ l.initial.self.groups) × KeepsLed l.initial.self.lead l.self.lead

abbrev pub decreases-loop-piece : goal.decreases-loop-piece
decreases-loop-piece g l = pieces_left g.comps l.self
