-- Those of the blocks so far.
use Rattle.std.proofs.Common.{◌≡◌, map, take}
use Rattle.spqr_session.specs.Embedded.{BlockView}
use Rattle.spqr_session.specs.Marked.{marked_in}
use Rattle.spqr_session.proofs.marks.MarkedVertices.of.Given as goal

abbrev pub invariant-loop-block : goal.invariant-loop-block
invariant-loop-block l = l.places.items ≡ map (λ (v : BlockView). marked_in l.fn.marks.items v.tree) (take l.block-index l.blocks)
