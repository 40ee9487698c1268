use Rattle.std.proofs.Common.{◌≡◌, ℕ, take}
use Rattle.multigraph.specs.Marks.{is_marked}
use Rattle.pair_split.specs.Bridges.{family_of, in_bridge, has_label, side_of}
use Rattle.pair_split.proofs.bridges.mark_along.Given as goal

abbrev pub invariant-loop-edge : goal.invariant-loop-edge
invariant-loop-edge l = (n : ℕ) → is_marked l.marks n ≡ side_of (family_of (take l.edge-index l.edges)) (in_bridge l.a l.b (has_label l.labels l.label)) n
