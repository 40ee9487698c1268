use Rattle.made_graph.proofs.PlanarBlocks.{subdividing-keeps, doubling-keeps, path-keeps, tetrahedron-keeps}
use Rattle.made_graph.proofs.laws.operations_keep_planar_blocks.Goals as goal

pub returns : goal.returns
returns c = record { subdivided = subdividing-keeps; doubled = doubling-keeps; path = path-keeps; tetrahedron = tetrahedron-keeps }
