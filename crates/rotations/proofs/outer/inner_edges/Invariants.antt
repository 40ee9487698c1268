use Rattle.std.proofs.Common.{◌≡◌, map, take}
use Rattle.rotations.proofs.outer.inner_edges.Given as goal
use Rattle.permutations.specs.Members.{place_of}

-- the numbers of the edges so far
abbrev pub invariant-loop-e : goal.invariant-loop-e
invariant-loop-e l = l.edges.items ≡ map (place_of l.p.edges) (take l.e-index l.list)
