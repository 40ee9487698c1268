-- Graphs that have a plane rotation system, graphs that have none, and the nodes and blocks of either kind.
use Rattle.std.specs.Prelude.{◌≡◌, ℕ, ◌<◌, List, length}
use Rattle.multigraph.specs.Graph.{Multigraph}
use Rattle.multigraph.specs.Part.{GraphPart, IsPart}
use Rattle.faces.specs.Euler.{IsPlaneSystem}
use Rattle.graph_theory.specs.Triconnected.{IsTriconnected}
use Rattle.blocks.specs.Blocks.{BlockStructure, block_at, IsBlockStructure}
use Rattle.pair_split.specs.Tutte.{Node, node_at}
use Rattle.pair_split.specs.declared.components.Kind.TheVariants.{R}
use Rattle.skeletons.specs.Moves.{IsNodeOfKind}
use Rattle.skeletons.specs.Families.{skeleton_graph}

-- g has a plane rotation system
abbrev pub HasPlaneSystem : Multigraph → Type 0
HasPlaneSystem g = (r : List (List ℕ)) × IsPlaneSystem g r

-- g has no plane rotation system
abbrev pub HasNoPlaneSystem : Multigraph → Type 0
HasNoPlaneSystem g = (r : List (List ℕ)) → IsPlaneSystem g r → ⊥

-- if node k is triconnected, its skeleton has a plane rotation system
abbrev pub IsPlanarNode : List Node → ℕ → Type 0
IsPlanarNode nodes k = (node_at nodes k).kind ≡ R → HasPlaneSystem (skeleton_graph nodes k)

-- node k is triconnected, and this is its skeleton, which has no plane rotation system
pub record IsNonplanarNode (nodes : List Node) (k : ℕ) (skeleton : Multigraph) : Type 0 where
  pub node : IsNodeOfKind nodes k R
  pub skeleton_is : skeleton ≡ skeleton_graph nodes k
  pub triconnected : IsTriconnected skeleton
  pub nonplanar : HasNoPlaneSystem skeleton

-- the part of g that these edges make has a plane rotation system
abbrev pub IsPlanarPart : Multigraph → List ℕ → Type 0
IsPlanarPart g edges = (part : GraphPart) × IsPart g edges part × HasPlaneSystem part.graph

-- each block of g has a plane rotation system
abbrev pub HasPlanarBlocks : Multigraph → Type 0
HasPlanarBlocks g = (s : BlockStructure) × IsBlockStructure g s × ((b : ℕ) → b < length s.blocks → IsPlanarPart g (block_at s.blocks b))
