use Rattle.std.proofs.Common.{◌≡◌, ◌++◌, map, drop}
use Rattle.faces.specs.Euler.{dart_from}
use Rattle.contract_obstruct.specs.Arcs.{arcs_of}
use Rattle.contract_obstruct.proofs.arcs.arcs.Given as goal

abbrev pub invariant-loop-edge : goal.invariant-loop-edge
invariant-loop-edge l = l.all.items ++ arcs_of l.next (map (dart_from l.h l.w) (drop l.edge-index l.edges)) ≡ arcs_of l.next (map (dart_from l.h l.w) l.edges)
