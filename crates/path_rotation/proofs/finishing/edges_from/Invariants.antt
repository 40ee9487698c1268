-- The edges of the darts so far, and the dart after them.
use Rattle.std.proofs.Common.{◌≡◌, ◌<◌, slice_index}
use Rattle.permutations.specs.Permutation.{iterate}
use Rattle.faces.specs.Euler.{dart_count}
use Rattle.path_rotation.specs.Finish.{ArePassed}
use Rattle.path_rotation.proofs.finishing.edges_from.Given as goal

abbrev pub invariant-loop : goal.invariant-loop
invariant-loop l = record {
  passed : ArePassed l.fn.next l.fn.first l.counter l.edges.items;
  here : iterate (slice_index l.fn.next) l.counter l.fn.first ≡ l.at;
  below : l.counter < l.fn.count → l.at < dart_count l.fn.g;
}
