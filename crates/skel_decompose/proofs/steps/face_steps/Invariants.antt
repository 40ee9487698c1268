use Rattle.std.proofs.Common.{ℕ, ◌*◌, List}
use Rattle.faces.specs.Steps.{AreStepsBelow}
use Rattle.skeletons.specs.Families.{skeleton_graph, system_at, AreSkeletonSystems}
use Rattle.skel_compose.specs.Followers.{HasFollowers}
use Rattle.skel_decompose.proofs.steps.face_steps.Given as goal

abbrev pub invariant-loop-i : goal.invariant-loop-i
invariant-loop-i l = (family : List (List (List ℕ))) → AreSkeletonSystems l.tree family → HasFollowers l.tree family l.table → AreStepsBelow (skeleton_graph l.tree l.k) (system_at family l.k) (2 * l.i) l.steps.items
