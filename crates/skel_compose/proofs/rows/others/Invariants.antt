use Rattle.std.proofs.Common.{ℕ, List}
use Rattle.rotations.specs.Rotation.{IsRotationSystem}
use Rattle.skeletons.specs.Families.{skeleton_graph}
use Rattle.skel_compose.specs.Followers.{HasNext}
use Rattle.skel_compose.proofs.rows.others.Given as goal

abbrev pub invariant-loop-i : goal.invariant-loop-i
invariant-loop-i l = (s : List (List ℕ)) → IsRotationSystem (skeleton_graph l.tree l.k) s → HasNext (skeleton_graph l.tree l.k) s l.i l.row.items
