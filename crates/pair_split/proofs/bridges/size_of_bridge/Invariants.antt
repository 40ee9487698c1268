use Rattle.std.proofs.Common.{◌≡◌, ◌≤◌, take}
use Rattle.pair_split.specs.Bridges.{family_of, bridge_size}
use Rattle.pair_split.proofs.bridges.size_of_bridge.Given as goal

abbrev pub invariant-loop-edge : goal.invariant-loop-edge
invariant-loop-edge l = (l.size ≡ bridge_size (family_of (take l.edge-index l.edges)) l.a l.b l.labels l.label) × (l.size ≤ l.edge-index)
