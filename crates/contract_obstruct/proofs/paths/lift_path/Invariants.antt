use Rattle.std.proofs.Common.{◌≡◌, ◌++◌, drop}
use Rattle.graph_theory.specs.Path.{IsWalk}
use Rattle.planarity.specs.Lift.{lifted}
use Rattle.contract_obstruct.proofs.paths.lift_path.Given as goal

abbrev pub invariant-loop-edge : goal.invariant-loop-edge
invariant-loop-edge l = record {
  made : l.edges.items ++ lifted l.g l.e l.at (drop l.edge-index l.path) l.to ≡ lifted l.g l.e l.from l.path l.to;
  walk : IsWalk l.g l.at (lifted l.g l.e l.at (drop l.edge-index l.path) l.to);
}
