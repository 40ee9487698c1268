use Rattle.std.proofs.Common.{◌≡◌, take}
use Rattle.pair_split.specs.Family.{on_side}
use Rattle.multigraph.specs.Marks.{is_marked}
use Rattle.pair_split.specs.Bridges.{family_of}
use Rattle.pair_split.proofs.splitting.marked_edges.Given as goal

abbrev pub invariant-loop-edge : goal.invariant-loop-edge
invariant-loop-edge l = family_of l.kept.items ≡ on_side (is_marked l.marks) (family_of (take l.edge-index l.edges))
