use Rattle.std.proofs.Common.{◌≡◌, ◌∷◌, take}
use Rattle.pair_split.specs.Family.{off_side}
use Rattle.multigraph.specs.Marks.{is_marked}
use Rattle.pair_split.specs.Bridges.{entry_of, family_of}
use Rattle.pair_split.proofs.splitting.other_edges.Given as goal

abbrev pub invariant-loop-edge : goal.invariant-loop-edge
invariant-loop-edge l = family_of l.kept.items ≡ entry_of l.fn.own ∷ off_side (is_marked l.marks) (family_of (take l.edge-index l.edges))
