-- What is proved of rotation systems and blocks, as a statement.
use Rattle.std.specs.Prelude.{ℕ, ◌<◌, ◌↔◌, List, length}
use Rattle.multigraph.specs.Graph.{Multigraph, IsGraph}
use Rattle.multigraph.specs.Part.{GraphPart, IsPart}
use Rattle.rotations.specs.Rotation.{IsRotationSystem}
use Rattle.blocks.specs.Blocks.{AreBlocks, block_at}
use Rattle.faces.specs.Euler.{IsPlane}
use Rattle.block_planes.specs.Crossing.{NoBlocksCross, IsPlaneOn}

-- a rotation system of a graph is plane exactly where it is plane on each block and no two blocks cross at a vertex
abbrev pub PlaneByBlocks : Type 0
PlaneByBlocks = (g : Multigraph) (r blocks : List (List ℕ)) (part : ℕ → GraphPart) → IsGraph g → IsRotationSystem g r → AreBlocks g blocks
    → ((b : ℕ) → b < length blocks → IsPart g (block_at blocks b) (part b))
    → (IsPlane g r ↔ (((b : ℕ) → b < length blocks → IsPlaneOn (part b) r) × NoBlocksCross g r))
