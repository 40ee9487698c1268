-- The darts that are left, inserted into the map so far, make the map of all.
use Rattle.std.proofs.Common.{◌≡◌, ◌<◌, drop, slice_index}
use Rattle.graph_theory.specs.Path.{IsWalk}
use Rattle.faces.specs.Euler.{dart_count}
use Rattle.path_separation.specs.Drawn.{darts_along}
use Rattle.path_rotation.specs.Insertion.{threaded}
use Rattle.path_rotation.proofs.inserting.insert_path.Given as goal

abbrev pub invariant-loop-edge : goal.invariant-loop-edge
invariant-loop-edge l = record {
  corner_in : l.corner < dart_count l.fn.g;
  walk : IsWalk l.fn.g l.at (drop l.edge-index l.fn.path);
  rest : threaded l.corner (darts_along l.fn.g l.at (drop l.edge-index l.fn.path)) l.fn.k (slice_index l.next) ≡ threaded l.fn.c (darts_along l.fn.g l.fn.x l.fn.path) l.fn.k (slice_index l.initial.next);
}
