-- State of the calls that read a rotation system of a block: its face steps, and what follows the items of the nodes that are neither
-- polygons nor bonds.
use Rattle.std.specs.Prelude.{◌≢◌, ℕ, ◌<◌, List, length}
use Rattle.multigraph.specs.Graph.{Multigraph, IsGraph, IsWithinLimits}
use Rattle.rotations.specs.Rotation.{IsRotationSystem}
use Rattle.faces.specs.Steps.{AreFaceSteps}
use Rattle.pair_split.specs.Tutte.{Node, node_at}
use Rattle.pair_split.specs.declared.components.Kind.TheVariants.{S, P}
use Rattle.skel_compose.specs.Followers.{HasFollowers, IsTable}
use Rattle.skel_decompose.specs.Followers.{IsFamily}

-- where there is a node that is neither a polygon nor a bond, the table has what follows the items of all nodes, in the family that r follows
abbrev pub HaveOtherFollowers : List Node → List (List ℕ) → List (List ℕ) → Type 0
HaveOtherFollowers nodes r table = (k : ℕ) → k < length nodes → (node_at nodes k).kind ≢ S → (node_at nodes k).kind ≢ P
    → IsTable nodes table × ((family : List (List (List ℕ))) → IsFamily nodes r family → HasFollowers nodes family table)

-- the face steps of a rotation system of a graph
pub record AreStepsOf (g : Multigraph) (r : List (List ℕ)) (steps : List ℕ) : Type 0 where
  pub graph : IsGraph g
  pub limits : IsWithinLimits g
  pub system : IsRotationSystem g r
  pub each : AreFaceSteps g r steps
