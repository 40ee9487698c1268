use Rattle.std.proofs.Common.{ℕ, List}
use Rattle.faces.specs.Steps.{AreFaceSteps}
use Rattle.skel_compose.specs.Followers.{IsTable}
use Rattle.skel_decompose.specs.Followers.{IsInRuns, IsFamily, HaveLasts}
use Rattle.skel_decompose.proofs.filling.followers_by_steps.Given as goal

abbrev pub invariant-loop-e : goal.invariant-loop-e
invariant-loop-e l = IsTable l.tree l.table × ((r : List (List ℕ)) (family : List (List (List ℕ))) → IsInRuns l.g l.tree r → AreFaceSteps l.g r l.steps → IsFamily l.tree r family → HaveLasts l.g l.tree r family l.table l.e)
