-- The vertices so far are marked, and with those that are left they are all.
use Rattle.std.proofs.Common.{◌≡◌, ℕ, true, ◌||◌, drop}
use Rattle.permutations.specs.Members.{is_member}
use Rattle.multigraph.specs.Marks.{is_marked}
use Rattle.graph_theory.specs.Path.{IsWalk, walk_vertices}
use Rattle.path_rotation.proofs.inserting.mark_vertices.Given as goal

abbrev pub invariant-loop-edge : goal.invariant-loop-edge
invariant-loop-edge l = record {
  walk : IsWalk l.fn.g l.at (drop l.edge-index l.fn.path);
  here : is_marked l.on l.at ≡ true;
  rest : (v : ℕ) → (is_marked l.on v || is_member v (walk_vertices l.fn.g l.at (drop l.edge-index l.fn.path))) ≡ (is_marked l.fn.on v || is_member v (walk_vertices l.fn.g l.fn.x l.fn.path));
}
