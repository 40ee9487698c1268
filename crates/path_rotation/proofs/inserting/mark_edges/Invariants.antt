-- The edges so far are marked.
use Rattle.std.proofs.Common.{◌≡◌, ℕ, ◌||◌, take}
use Rattle.permutations.specs.Members.{is_member}
use Rattle.multigraph.specs.Marks.{is_marked}
use Rattle.path_rotation.proofs.inserting.mark_edges.Given as goal

abbrev pub invariant-loop-edge : goal.invariant-loop-edge
invariant-loop-edge l = (e : ℕ) → is_marked l.drawn e ≡ (is_marked l.initial.drawn e || is_member e (take l.edge-index l.fn.path))
