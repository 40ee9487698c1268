use Rattle.std.proofs.Common.{◌≡◌, ◌++◌, drop}
use Rattle.graph_theory.specs.Path.{IsWalk}
use Rattle.kuratowski.specs.Routes.{lifted_walk}
use Rattle.kuratowski.proofs.lifting.lift_walk.Given as goal

abbrev pub invariant-loop-edge : goal.invariant-loop-edge
invariant-loop-edge l = record {
  walk : IsWalk l.inner l.at (drop l.edge-index l.edges);
  sofar : l.along.items ++ lifted_walk l.inner l.routes l.at (drop l.edge-index l.edges) ≡ lifted_walk l.inner l.routes l.from l.edges;
}
