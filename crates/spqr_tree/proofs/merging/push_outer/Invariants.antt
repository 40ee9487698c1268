use Rattle.std.proofs.Common.{take}
use Rattle.spqr_tree.specs.Merging.{IsPushed}
use Rattle.spqr_tree.proofs.merging.push_outer.Given as goal

abbrev pub invariant-loop-piece : goal.invariant-loop-piece
invariant-loop-piece l = IsPushed l.initial.stack.items l.stack.items l.lead l.k (take l.piece-index l.pieces)
